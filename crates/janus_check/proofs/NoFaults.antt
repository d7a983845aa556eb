-- Lists of faults that are empty.
use Rattle.std.proofs.Common.{◌≡◌, Bool, true, false, not, is_some, List, [], ◌∷◌, ◌++◌, Option, Some, None, refl, ap, ◌∙◌}
use Rattle.janus_check.specs.declared.fault.CheckFault.{CheckFault}
use Rattle.janus_check.specs.Check.{fault_if}

pub left_nil : (xs ys : List CheckFault) → xs ++ ys ≡ [] → xs ≡ []
left_nil [] ys h = refl
left_nil (x ∷ xs) ys h = cc

pub right_nil : (xs ys : List CheckFault) → xs ++ ys ≡ [] → ys ≡ []
right_nil [] ys h = h
right_nil (x ∷ xs) ys h = cc

pub both_nil : (xs ys : List CheckFault) → xs ≡ [] → ys ≡ [] → xs ++ ys ≡ []
both_nil xs ys h k = ap (λ xs. xs ++ ys) h ∙ k

pub no_fault : (b : Bool) (f : CheckFault) → fault_if b f ≡ [] → b ≡ false
no_fault true f h = cc
no_fault false f h = refl

pub fault_if_false : (b : Bool) (f : CheckFault) → b ≡ false → fault_if b f ≡ []
fault_if_false b f h = ap (λ b. fault_if b f) h

pub not_false : (b : Bool) → not b ≡ false → b ≡ true
not_false true h = refl
not_false false h = cc

pub none_out : {A : Type 0} (c : Option A) → is_some c ≡ false → c ≡ None
none_out (Some a) h = cc
none_out None h = refl

-- four parts in a row
abbrev pub Four : (a s t b : List CheckFault) → Type 0
Four a s t b = (a ≡ []) × (s ≡ []) × (t ≡ []) × (b ≡ [])

pub four : (a s t b : List CheckFault) → a ++ s ++ t ++ b ≡ [] → Four a s t b
four a s t b h =
    let three = left_nil (a ++ s ++ t) b h in
    let pair = left_nil (a ++ s) t three in
    (left_nil a s pair, right_nil a s pair, right_nil (a ++ s) t three, right_nil (a ++ s ++ t) b h)

pub all_four : (a s t b : List CheckFault) → a ≡ [] → s ≡ [] → t ≡ [] → b ≡ [] → a ++ s ++ t ++ b ≡ []
all_four a s t b h i j k = both_nil (a ++ s ++ t) b (both_nil (a ++ s) t (both_nil a s h i) j) k
