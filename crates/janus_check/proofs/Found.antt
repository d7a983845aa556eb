-- What was found or is found in several parts.
use Rattle.std.proofs.Common.{◌≡◌, Bool, true, false, ◌||◌, refl, ap, ◌∙◌}

pub or_or : (a b c : Bool) → (a || b) || c ≡ a || (b || c)
or_or true b c = refl
or_or false b c = refl

-- parts that are looked through one after another
pub two_found : (found next last a b : Bool) → next ≡ found || a → last ≡ next || b → last ≡ found || (a || b)
two_found found next last a b one other = other ∙ ap (λ (r : Bool). r || b) one ∙ or_or found a b
