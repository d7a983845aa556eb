-- Numbers among others.
use Rattle.std.proofs.Common.{◌≡◌, ◌≢◌, ℕ, zero, suc, ◌<◌, ◌≤◌, Bool, true, false, ◌||◌, nat_eq, List, [], ◌∷◌, length, take, get_or, refl, ap, ◌∙◌}
use Rattle.std.proofs.Common.{sym, subst, arith}
use Rattle.std.proofs.lemmas.Bool.{eqb-false, ne_eqb}
use Rattle.std.proofs.lemmas.Bool.Decides.{nat_tests}
use Rattle.janus_frames.specs.Cells.{has, AreApart, AreBelow}

pub or_false : (a b : Bool) → a || b ≡ false → (a ≡ false) × (b ≡ false)
or_false true b h = absurd cc
or_false false b h = (refl, h)

pub below-at : (n : ℕ) (xs : List ℕ) (i : ℕ) → AreBelow n xs → i < length xs → get_or xs i 0 < n
below-at n [] i b h = absurd (omega arith)
below-at n (x ∷ xs) zero b h = b.0
below-at n (x ∷ xs) (suc i) b h = below-at n xs i b.1 (omega arith)

-- what is not among numbers is none of the first ones
pub has-take : (xs : List ℕ) (i k : ℕ) → has xs k ≡ false → has (take i xs) k ≡ false
has-take [] zero k h = refl
has-take [] (suc i) k h = refl
has-take (x ∷ xs) zero k h = refl
has-take (x ∷ xs) (suc i) k h = let o = or_false (nat_eq x k) (has xs k) h in rw (o.0) (has-take xs i k o.1)

pub has-at : (xs : List ℕ) (i k : ℕ) → i < length xs → has xs k ≡ false → nat_eq (get_or xs i 0) k ≡ false
has-at [] i k h n = absurd (omega arith)
has-at (x ∷ xs) zero k h n = (or_false (nat_eq x k) (has xs k) n).0
has-at (x ∷ xs) (suc i) k h n = has-at xs i k (omega arith) (or_false (nat_eq x k) (has xs k) n).1

nat_turned : (p q : ℕ) → nat_eq p q ≡ false → nat_eq q p ≡ false
nat_turned p q h = ne_eqb q p (λ e. eqb-false p q h (sym e))

or_assoc : (a b c : Bool) → a || (b || c) ≡ (a || b) || c
or_assoc true b c = refl
or_assoc false b c = refl

or_none : (a : Bool) → a || false ≡ a
or_none true = refl
or_none false = refl

-- one more of them
pub has-more : (xs : List ℕ) (i k : ℕ) → i < length xs → has (take (suc i) xs) k ≡ has (take i xs) k || nat_eq (get_or xs i 0) k
has-more [] i k h = absurd (omega arith)
has-more (x ∷ xs) zero k h = or_none (nat_eq x k)
has-more (x ∷ xs) (suc i) k h = ap (λ b. nat_eq x k || b) (has-more xs i k (omega arith)) ∙ or_assoc (nat_eq x k) (has (take i xs) k) (nat_eq (get_or xs i 0) k)

-- none of those before it is the i-th
pub none-before : (xs : List ℕ) (i : ℕ) → AreApart xs → i < length xs → has (take i xs) (get_or xs i 0) ≡ false
none-before [] i d h = absurd (omega arith)
none-before (x ∷ xs) zero d h = refl
none-before (x ∷ xs) (suc i) d h = let e : nat_eq x (get_or xs i 0)
    ≡ false = nat_turned (get_or xs i 0) x (has-at xs i x (omega arith) d.0) in rw e (none-before xs i d.1 (omega arith))

pub not-equal : (p q : ℕ) → nat_eq p q ≡ false → p ≢ q
not-equal p q h = eqb-false p q h

pub equal : (p q : ℕ) → nat_eq p q ≡ true → p ≡ q
equal p q h = grind (arith, nat_tests)

-- what is not among one more of them is not among those, nor the next
pub has-less : (xs : List ℕ) (i j k : ℕ) → j ≡ suc i → i < length xs → has (take j xs) k ≡ false →
    (has (take i xs) k ≡ false) × (nat_eq (get_or xs i 0) k ≡ false)
has-less xs i j k e h n = or_false (has (take i xs) k) (nat_eq (get_or xs i 0) k) (sym (has-more xs i k h) ∙ subst (λ j. has (take j xs) k ≡ false) e n)

-- no two of different places are one
pub apart-at : (xs : List ℕ) (j i : ℕ) → j < i → AreApart xs → i < length xs → get_or xs j 0 ≢ get_or xs i 0
apart-at [] j i l d h = absurd (omega arith)
apart-at (x ∷ xs) j zero l d h = absurd (omega arith)
apart-at (x ∷ xs) zero (suc i) l d h = let n = has-at xs i x (omega arith) d.0 in λ e. not-equal (get_or xs i 0) x n (sym e)
apart-at (x ∷ xs) (suc j) (suc i) l d h = apart-at xs j i (omega arith) d.1 (omega arith)

-- all of them
pub all-of : (xs : List ℕ) (i : ℕ) → length xs ≤ i → take i xs ≡ xs
all-of [] zero h = refl
all-of [] (suc i) h = refl
all-of (x ∷ xs) zero h = absurd (omega arith)
all-of (x ∷ xs) (suc i) h = ap (λ l. x ∷ l) (all-of xs i (omega arith))
