-- What is read at the front of a command's data leaves less; so properties are read one after the other.
use Rattle.std.proofs.Common.{◌≡◌, ℕ, zero, suc, ◌<◌, ◌≤◌, Bool, true, false, List, [], ◌∷◌, Option, Some, None, length, refl, ap, sym, subst, ◌∙◌, arith, cond}
use Rattle.std.specs.Option.{option_and_then, option_map, option_or}
use Rattle.std.specs.Str.{str_eq_ignore_ascii_case}
use Rattle.std.proofs.lemmas.Option.{option_and_then_some, cond_some}
use Rattle.std.proofs.lemmas.List.{length-drop}
use Rattle.zmtp_peer.specs.Commands.{cut, sized, sized_by_four, Property, property_at, metadata_within, metadata_of, value_of}

-- a cut leaves no more than there was
pub cut-shorter : (n : ℕ) (xs : List ℕ) (y : List ℕ × List ℕ) → cut n xs ≡ Some y → length y.1 ≤ length xs
cut-shorter n xs y h =
    let parts = cond_some _ _ _ h in
    omega (arith, length-drop n xs, ap (λ (p : List ℕ × List ℕ). length p.1) parts.1)

-- octets behind a length leave fewer than there were
pub sized-shorter : (xs : List ℕ) (y : List ℕ × List ℕ) → sized xs ≡ Some y → length y.1 < length xs
sized-shorter [] y h = cc
sized-shorter (n ∷ xs) y h = omega (arith, cut-shorter n xs y h)

second_of : (p : Property) (r : List ℕ) (y : Property × List ℕ) → ◌≡◌ {A = Option (Property × List ℕ)} (Some (p, r)) (Some y) → r ≡ y.1
second_of p r y h = ap (λ (o : Option (Property × List ℕ)). elim o [ None ↦ r | Some q ↦ q.1 ]) h

-- octets behind a length of four octets are no more than there were
sized_by_four-shorter : (xs : List ℕ) (y : List ℕ × List ℕ) → sized_by_four xs ≡ Some y → length y.1 ≤ length xs
sized_by_four-shorter xs y h =
    option_and_then_some _ (cut 4 xs) y h (λ (size : List ℕ × List ℕ) is_size after_size.
    omega (arith, cut-shorter 4 xs size is_size, cut-shorter _ size.1 y after_size))

-- a property leaves fewer than there were
pub property_at-shorter : (xs : List ℕ) (y : Property × List ℕ) → property_at xs ≡ Some y → length y.1 < length xs
unfolding property_at
property_at-shorter xs y h =
    option_and_then_some _ (sized xs) y h (λ (name : List ℕ × List ℕ) is_name after_name.
    option_and_then_some _ (sized_by_four name.1) y after_name (λ (value : List ℕ × List ℕ) is_value end.
    let last : value.1 ≡ y.1 = second_of _ _ y end in
    let shorter : length value.1 < length xs = omega (arith, sized-shorter xs name is_name, sized_by_four-shorter name.1 value is_value) in
    subst (λ (r : List ℕ). length r < length xs) last shorter))

-- two ways on from an option are one where they are one at its value
and_then-same : {A B : Type 0} (f g : A → Option B) (o : Option A) → ((y : A) → o ≡ Some y → f y ≡ g y) → option_and_then f o ≡ option_and_then g o
and_then-same f g None h = refl
and_then-same f g (Some y) h = h y refl

-- a larger bound reads the same
pub metadata_within-enough : (n m : ℕ) (xs : List ℕ) → length xs ≤ n → length xs ≤ m → metadata_within n xs ≡ metadata_within m xs
metadata_within-enough n m [] a b = refl
metadata_within-enough zero m (x ∷ xs) a b = absurd (omega arith)
metadata_within-enough (suc n) zero (x ∷ xs) a b = absurd (omega arith)
metadata_within-enough (suc n) (suc m) (x ∷ xs) a b = and_then-same _ _ (property_at (x ∷ xs)) (λ y h.
    let less : length y.1 < length (x ∷ xs) = property_at-shorter (x ∷ xs) y h in
    ap (λ o. option_and_then (λ (others : List Property). Some (y.0 ∷ others)) o) (metadata_within-enough n m y.1 (omega arith) (omega arith)))

-- the properties of octets that aren't empty: the first, and then those of the octets behind it
pub metadata_of-more : (xs : List ℕ) → 0 < length xs → metadata_of xs ≡ option_and_then (λ first. option_map (λ others. first.0 ∷ others) (metadata_of first.1))
    (property_at xs)
unfolding metadata_of
metadata_of-more [] h = absurd (omega arith)
metadata_of-more (x ∷ xs) h = and_then-same _ _ (property_at (x ∷ xs)) (λ y e.
    let less : length y.1 < length (x ∷ xs) = property_at-shorter (x ∷ xs) y e in
    ap (λ o. option_and_then (λ (others : List Property). Some (y.0 ∷ others)) o)
    (metadata_within-enough (length xs) (length y.1) y.1 (omega arith) (omega arith))
    ∙ as_map y.0 (metadata_within (length y.1) y.1))
  where
    as_map : (p : Property) (o : Option (List Property)) → option_and_then (λ others. Some (p ∷ others)) o ≡ option_map (λ others. p ∷ others) o
    as_map p None = refl
    as_map p (Some ps) = refl

-- the value that a property gives a name, if any
abbrev pub value_at : List ℕ → Property → Option (List ℕ)
value_at name p = cond (str_eq_ignore_ascii_case p.name name) (Some p.value) None

value_of-more : (name : List ℕ) (p : Property) (ps : List Property) → value_of name (p ∷ ps) ≡ option_or (value_at name p) (value_of name ps)
value_of-more name p ps = by_test (str_eq_ignore_ascii_case p.name name)
  where
    by_test : (b : Bool) → cond b (Some p.value) (value_of name ps) ≡ option_or (cond b (Some p.value) None) (value_of name ps)
    by_test true = refl
    by_test false = refl

or-assoc : (a b c : Option (List ℕ)) → option_or (option_or a b) c ≡ option_or a (option_or b c)
or-assoc None b c = refl
or-assoc (Some x) b c = refl

-- one more property: what was found so far, or the value that it gives, or that of the octets behind it
pub announced-more : (name rest : List ℕ) (y : Property × List ℕ) (found : Option (List ℕ)) → 0 < length rest → property_at rest ≡ Some y
    → option_map (λ ps. option_or (option_or found (value_at name y.0)) (value_of name ps)) (metadata_of y.1)
    ≡ option_map (λ ps. option_or found (value_of name ps)) (metadata_of rest)
announced-more name rest y found some is = by_others (metadata_of y.1)
    ∙ ap (λ o. option_map (λ ps. option_or found (value_of name ps))
    (option_and_then (λ (first : Property × List ℕ). option_map (λ others. first.0 ∷ others) (metadata_of first.1)) o)) (sym is)
    ∙ ap (option_map (λ ps. option_or found (value_of name ps))) (sym (metadata_of-more rest some))
  where
    by_others : (o : Option (List Property)) → option_map (λ ps. option_or (option_or found (value_at name y.0)) (value_of name ps)) o
        ≡ option_map (λ ps. option_or found (value_of name ps)) (option_map (λ others. y.0 ∷ others) o)
    by_others None = refl
    by_others (Some ps) = ap (λ v. Some v) (or-assoc found (value_at name y.0) (value_of name ps) ∙ ap (option_or found) (sym (value_of-more name y.0 ps)))

-- no property where there are octets: no metadata
pub announced-none : (name rest : List ℕ) (found : Option (List ℕ)) → 0 < length rest → property_at rest ≡ None
    → option_map (λ ps. option_or found (value_of name ps)) (metadata_of rest) ≡ None
announced-none name rest found some is = ap (option_map (λ ps. option_or found (value_of name ps))) (metadata_of-more rest some
    ∙ ap (option_and_then (λ (first : Property × List ℕ). option_map (λ others. first.0 ∷ others) (metadata_of first.1))) is)

-- nothing is left: what was found
pub announced-end : (name rest : List ℕ) (found : Option (List ℕ)) → length rest ≡ 0
    → option_map (λ ps. option_or found (value_of name ps)) (metadata_of rest) ≡ Some found
unfolding metadata_of
announced-end name [] None h = refl
announced-end name [] (Some v) h = refl
announced-end name (x ∷ rest) found h = absurd (omega arith)
