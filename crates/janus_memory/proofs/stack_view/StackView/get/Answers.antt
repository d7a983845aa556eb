use Rattle.std.proofs.Common.{◌≡◌, ℕ, ℤ, zero, suc, ◌<◌, List, [], ◌∷◌, Some, None, length, drop, refl, ap, ◌∙◌, sym, arith, w32, to_z, of_z}
use Rattle.std.specs.Prelude.{slice_get, Option, MatchOption}
use Rattle.std.proofs.lemmas.Int.{to_z-of_z}
use Rattle.std.proofs.lemmas.List.{drop-drop}
use Rattle.cell_pool.specs.Lent.{values_of}
use Rattle.janus_memory.specs.Stacks.{held}
use Rattle.janus_memory.proofs.stack_view.StackView.get.Goals as goal

first_left : (l : List ℤ) (i : ℕ) → slice_get (drop i l) 0 ≡ slice_get l i
first_left [] zero = refl
first_left [] (suc i) = refl
first_left (x ∷ l) zero = refl
first_left (x ∷ l) (suc i) = first_left l i

is_there : (l : List ℤ) (i : ℕ) → i < length l → slice_get l i ≡ None → ⊥
is_there [] i lt e = absurd (omega (arith, lt))
is_there (x ∷ l) zero lt e = cc
is_there (x ∷ l) (suc i) lt e = is_there l i (omega (arith, lt)) e

-- what an iterator gave was the first, and the others are left
first_is : (l m : List ℤ) (r : Option ℤ) → MatchOption r ((l ≡ []) × (m ≡ [])) (λ x. l ≡ x ∷ m) → r ≡ slice_get l 0
first_is l m None e = ap (λ l. slice_get l 0) (sym e.0)
first_is l m (Some x) e = ap (λ l. slice_get l 0) (sym e)

rest_is : (l m : List ℤ) (r : Option ℤ) → MatchOption r ((l ≡ []) × (m ≡ [])) (λ x. l ≡ x ∷ m) → m ≡ drop 1 l
rest_is l m None e = e.1 ∙ ap (drop 1) (sym e.0)
rest_is l m (Some x) e = ap (drop 1) (sym e)

pub loop-i-init : goal.loop-i-init
unfolding held
loop-i-init c = refl

pub loop-i-preserved : goal.loop-i-preserved
unfolding held
loop-i-preserved c =
    let l = values_of c.args.self.now.values in
    rest_is (values_of c.loop-i.values) (values_of c.next-above.new.self) c.next-above.result c.next-above.ensures.steps ∙ ap (drop 1) c.loop-i.invariant
    ∙ drop-drop 1 c.loop-i._i l
    ∙ ap (λ n. drop n l) (omega arith)

pub unreachable-requires : goal.unreachable-requires
unfolding held
unreachable-requires c =
    let l = values_of c.args.self.now.values in
    let all : c.loop-i._i ≡ c.args.i = omega arith in
    is_there l c.args.i c.requires
    (sym (first_left l c.args.i) ∙ ap (λ n. slice_get (drop n l) 0) (sym all) ∙ ap (λ l. slice_get l 0) (sym c.loop-i.invariant)
    ∙ sym (first_is (values_of c.loop-i.values) (values_of c.next.new.self) c.next.result c.next.ensures.steps) ∙ c.in-None.is)

pub returns : goal.returns
unfolding held
returns c =
    let l = values_of c.args.self.now.values in
    let all : c.loop-i._i ≡ c.args.i = omega arith in
    let z : to_z w32 (of_z w32 c.in-Some.number) ≡ c.in-Some.number = grind (arith, to_z-of_z) in
    sym (first_left l c.args.i) ∙ ap (λ n. slice_get (drop n l) 0) (sym all) ∙ ap (λ l. slice_get l 0) (sym c.loop-i.invariant)
    ∙ sym (first_is (values_of c.loop-i.values) (values_of c.next.new.self) c.next.result c.next.ensures.steps) ∙ c.in-Some.is ∙ ap Some (sym z)
