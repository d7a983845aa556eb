-- Names in sight that are listed one by one.
use Rattle.std.proofs.Common.{◌≡◌, ℕ, suc, ◌+◌, ◌-◌, ◌<◌, ◌≤◌, List, [], ◌∷◌, ◌++◌, length, map, take, drop, reverse, get_or, ap, ◌∙◌, sym, arith}
use Rattle.std.proofs.Common.{add-one}
use Rattle.std.specs.Prelude.{slice_get, Some}
use Rattle.std.proofs.lemmas.List.{map-append, append_assoc, append-nil, drop_all, take_all, reverse-append}
use Rattle.std.proofs.lemmas.Option.{get_or_from_slice_get}
use Rattle.std.proofs.Math.Seq.{drop-cons}
use Rattle.janus_meaning.specs.Syntax.{Name}
use Rattle.steps_walk.proofs.Bodies.{take_one}

module _ {X : Type 0} (now : X → Name) (told more : List X) (s : X) (e : more ≡ told ++ s ∷ []) where
  one_more : (rest : List Name) → map now more ++ rest ≡ map now told ++ now s ∷ rest
  one_more rest =
      ap (λ l. map now l ++ rest) e ∙ ap (λ l. l ++ rest) (map-append now told (s ∷ [])) ∙ append_assoc (map now told) (now s ∷ []) rest

  -- of a table the last of those that are left
  pub next_declared : (names : List Name) (i : ℕ) (x : Name) (all : List Name) → i < length names → slice_get names (length names - 1 - i) ≡ Some x →
      now s ≡ x → map now told ++ reverse (take (length names - i) names) ≡ all → map now more ++ reverse (take (length names - (i + 1)) names) ≡ all
  next_declared names i x all some there name h =
      let left : ℕ = length names - (i + 1) in
      let y : length names - 1 - i ≡ left = omega arith in
      let z : length names - i ≡ suc left = omega (arith, some) in
      let within : left < length names = omega (arith, some) in
      let at : slice_get names left ≡ Some x = ap (slice_get names) (sym y) ∙ there in
      let is : get_or names left x ≡ x = get_or_from_slice_get names left x x at in
      let last : take (length names - i) names ≡ take left names ++ x ∷ [] = ap (λ n. take n names) z ∙ take_one names left x within is in
      let turned : reverse (take (length names - i) names) ≡ x ∷ reverse (take left names) = ap reverse last ∙ reverse-append (take left names) (x ∷ []) in
      one_more (reverse (take left names))
      ∙ ap (λ y. map now told ++ y ∷ reverse (take left names)) name
      ∙ ap (λ l. map now told ++ l) (sym turned) ∙ h

  -- of parameters the first of those that are left
  pub next_parameter : {Y : Type 0} (text : Y → Name) (names : List Y) (i : ℕ) (y : Y) (all : List Name) → i < length names → y ≡ get_or names i y →
      now s ≡ text y → map now told ++ map text (drop i names) ≡ all → map now more ++ map text (drop (i + 1) names) ≡ all
  next_parameter text names i y all within is name h =
      let next : map text (drop i names) ≡ text y ∷ map text (drop (i + 1) names) =
      ap (map text) (drop-cons names i y within) ∙ ap (λ q. map text (q ∷ drop (suc i) names)) (sym is)
      ∙ ap (λ n. text y ∷ map text (drop n names)) (sym (add-one i)) in
      one_more (map text (drop (i + 1) names))
      ∙ ap (λ x. map now told ++ x ∷ map text (drop (i + 1) names)) name
      ∙ ap (λ l. map now told ++ l) (sym next) ∙ h

-- none is left
pub all_declared : {X : Type 0} (now : X → Name) (told : List X) (names : List Name) (i : ℕ) (all : List Name) → length names ≤ i →
    map now told ++ reverse (take (length names - i) names) ≡ all → map now told ≡ all
all_declared now told names i all past h =
    let z : length names - i ≡ 0 = omega (arith, past) in
    sym (append-nil (map now told)) ∙ ap (λ n. map now told ++ reverse (take n names)) (sym z) ∙ h

pub all_parameters : {X Y : Type 0} (now : X → Name) (told : List X) (text : Y → Name) (names : List Y) (i : ℕ) (all : List Name) → length names ≤ i →
    map now told ++ map text (drop i names) ≡ all → map now told ≡ all
all_parameters now told text names i all past h =
    sym (append-nil (map now told)) ∙ ap (λ l. map now told ++ map text l) (sym (drop_all i names past)) ∙ h

-- all are left
pub whole_declared : {X : Type 0} (now : X → Name) (told : List X) (names : List Name) →
    map now told ++ reverse (take (length names - 0) names) ≡ map now told ++ reverse names
whole_declared now told names = ap (λ l. map now told ++ reverse l) (take_all (length names - 0) names (omega arith))
