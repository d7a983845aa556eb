-- The ways in which code runs outside the innermost call.
use Rattle.std.proofs.Common.{◌≡◌, ℕ, zero, suc, ◌-◌, ◌<◌, ◌≤◌, List, [], ◌∷◌, length, reverse, Bool, true, false, not, refl, ap, ◌∙◌, sym, arith}
use Rattle.std.specs.Prelude.{slice_get, Option, Some, unwrap_or}
use Rattle.std.proofs.lemmas.List.{length-reverse}
use Rattle.std.proofs.lemmas.Option.{slice_get_within}
use Rattle.janus_machine.specs.declared.direction.Direction.{Direction}
use Rattle.janus_machine.specs.declared.direction.Direction.TheVariants.{Forward, Inverse}
use Rattle.janus_machine.specs.declared.cursor.Call.{Call}
use Rattle.janus_machine.specs.Mirrored.{opposite_direction}
use Rattle.janus_machine.specs.Nested.{caller_way}
use Rattle.janus_machine.specs.Whereabouts.{faces_inverse}
use Rattle.steps_walk.specs.Standing.{way_outside}
use Rattle.steps_walk.proofs.Lists.{get_left, get_last, turned}

get_reversed : (cs : List Call) (k : ℕ) (c : Call) → k < length cs → slice_get (reverse cs) (length cs - suc k) ≡ Some c → slice_get cs k ≡ Some c
get_reversed [] k c l e = absurd (omega arith)
get_reversed (x ∷ cs) zero c l e =
    let z : suc (length cs) - 1 ≡ length cs = omega arith in
    sym (get_last cs x) ∙ ap (λ (r : List Call). slice_get r (length cs)) (sym (turned x cs)) ∙ ap (slice_get (reverse (x ∷ cs))) (sym z) ∙ e
get_reversed (x ∷ cs) (suc k) c l e =
    let z : suc (length cs) - suc (suc k) ≡ length cs - suc k = omega arith in
    let size = length-reverse cs in
    get_reversed cs k c (omega arith)
    (sym (get_left (reverse cs) (x ∷ []) (length cs - suc k) (omega (arith, l, size)))
    ∙ ap (λ (r : List Call). slice_get r (length cs - suc k)) (sym (turned x cs)) ∙ ap (slice_get (reverse (x ∷ cs))) (sym z) ∙ e)

one_out : (d : Direction) (cs : List Call) (k : ℕ) (c : Call) → slice_get cs k ≡ Some c →
    way_outside d cs (suc k) ≡ caller_way c.uncalled (way_outside d cs k)
one_out d [] k c e = absurd (let l = slice_get_within {A = Call} [] k c e in omega arith)
one_out d (x ∷ cs) zero c e =
    let same : x ≡ c = ap (λ (o : Option Call). unwrap_or o c) e in
    ap (λ (y : Call). caller_way y.uncalled d) same
one_out d (x ∷ cs) (suc k) c e = one_out (caller_way x.uncalled d) cs k c e

faces_other : (d : Direction) → faces_inverse (opposite_direction d) ≡ not (faces_inverse d)
faces_other Forward = refl
faces_other Inverse = refl

-- one call more outside
module _ (d : Direction) (cs : List Call) (left : ℕ) (c : Call) (inverse : Bool) (within : left ≤ length cs) (some : 0 < left)
    (there : slice_get (reverse cs) (left - 1) ≡ Some c) (is : inverse ≡ faces_inverse (way_outside d cs (length cs - left))) where
  out : way_outside d cs (length cs - (left - 1)) ≡ caller_way c.uncalled (way_outside d cs (length cs - left))
  out =
      let z : length cs - (left - 1) ≡ suc (length cs - left) = omega arith in
      let y : left - 1 ≡ length cs - suc (length cs - left) = omega arith in
      ap (way_outside d cs) z
      ∙ one_out d cs (length cs - left) c (get_reversed cs (length cs - left) c (omega arith) (ap (slice_get (reverse cs)) (sym y) ∙ there))

  pub turned_out : c.uncalled ≡ true → not inverse ≡ faces_inverse (way_outside d cs (length cs - (left - 1)))
  turned_out t =
      ap not is ∙ sym (faces_other (way_outside d cs (length cs - left)))
      ∙ ap faces_inverse (sym (out ∙ ap (λ b. caller_way b (way_outside d cs (length cs - left))) t))

  pub same_out : c.uncalled ≡ false → inverse ≡ faces_inverse (way_outside d cs (length cs - (left - 1)))
  same_out t = is ∙ ap faces_inverse (sym (out ∙ ap (λ b. caller_way b (way_outside d cs (length cs - left))) t))
