-- The name of a number.
use Rattle.std.proofs.Common.{◌≡◌, ℕ, ◌<◌, List, [], length, ap, ◌∙◌, sym}
use Rattle.std.specs.Prelude.{Some}
use Rattle.std.proofs.Math.ListN.{get_or-append}
use Rattle.std.proofs.lemmas.Option.{slice_get-get_or, slice_get_within}
use Rattle.janus_slots.specs.Numbers.{Name, IsNumbered, GoOn, name_at}

pub is_numbered : (xs : List Name) (k : ℕ) → k < length xs → IsNumbered xs k (name_at xs k)
is_numbered xs k lt = slice_get-get_or xs k [] lt

pub number_fits : (xs : List Name) (k : ℕ) (x : Name) → IsNumbered xs k x → k < length xs
number_fits xs k x h = slice_get_within xs k x h

pub name_is : (xs : List Name) (k : ℕ) (x : Name) → IsNumbered xs k x → name_at xs k ≡ x
name_is xs k x h = let same : Some (name_at xs k) ≡ Some x = sym (is_numbered xs k (number_fits xs k x h)) ∙ h in cc

-- a name that has a number keeps it
pub goes_on_at : (xs ys : List Name) (k : ℕ) → GoOn xs ys → k < length xs → name_at ys k ≡ name_at xs k
goes_on_at xs ys k g lt = ap (λ zs. name_at zs k) g.1 ∙ get_or-append xs g.0 [] k lt
