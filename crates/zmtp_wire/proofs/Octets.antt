-- The flags octet and the size: what they are read from, they are read from alone.
use Rattle.std.proofs.Common.{◌≡◌, ℕ, zero, suc, ◌^◌, ◌<◌, ◌≤◌, ◌/◌, ◌%◌, Bool, true, false, eqb, not, List, [], ◌∷◌, ◌++◌, length, get_or, drop, replicate}
use Rattle.std.proofs.Common.{bit_and, sym, ap, ◌∙◌, refl, arith}
use Rattle.std.proofs.Math.Seq.{drop-nil}
use Rattle.std.specs.Int.{w64, from_be_bytes}
use Rattle.std.proofs.lemmas.Nat.{be_bytes_8, from_be_bytes-to_be_bytes_8}
use Rattle.zmtp_wire.specs.Header.{flags, eight_octets, size_octets, size_bound}

-- ---- flags

more_in : ℕ → Bool
more_in n = eqb (n % 2) 1

long_in : ℕ → Bool
long_in n = eqb (n / 2 % 2) 1

command_in : ℕ → Bool
command_in n = eqb (n / 4) 1

more_in-flags : (m l c : Bool) → more_in (flags m l c) ≡ m
unfolding more_in
more_in-flags false false false = refl
more_in-flags false false true = refl
more_in-flags false true false = refl
more_in-flags false true true = refl
more_in-flags true false false = refl
more_in-flags true false true = refl
more_in-flags true true false = refl
more_in-flags true true true = refl

long_in-flags : (m l c : Bool) → long_in (flags m l c) ≡ l
unfolding long_in
long_in-flags false false false = refl
long_in-flags false false true = refl
long_in-flags false true false = refl
long_in-flags false true true = refl
long_in-flags true false false = refl
long_in-flags true false true = refl
long_in-flags true true false = refl
long_in-flags true true true = refl

command_in-flags : (m l c : Bool) → command_in (flags m l c) ≡ c
unfolding command_in
command_in-flags false false false = refl
command_in-flags false false true = refl
command_in-flags false true false = refl
command_in-flags false true true = refl
command_in-flags true false false = refl
command_in-flags true false true = refl
command_in-flags true true false = refl
command_in-flags true true true = refl

-- one octet has one set of flags
pub flags_tell : (m l c m' l' c' : Bool) → flags m l c ≡ flags m' l' c' → (m ≡ m') × (l ≡ l') × (c ≡ c')
flags_tell m l c m' l' c' e = (
  sym (more_in-flags m l c) ∙ ap more_in e ∙ more_in-flags m' l' c',
  sym (long_in-flags m l c) ∙ ap long_in e ∙ long_in-flags m' l' c',
  sym (command_in-flags m l c) ∙ ap command_in e ∙ command_in-flags m' l' c',
)

-- flags leave the reserved bits alone
pub flags_below : (m l c : Bool) → flags m l c < 8
flags_below false false false = omega arith
flags_below false false true = omega arith
flags_below false true false = omega arith
flags_below false true true = omega arith
flags_below true false false = omega arith
flags_below true false true = omega arith
flags_below true true false = omega arith
flags_below true true true = omega arith

-- each octet below 8 is the flags that its bits are
pub flags_read : (n : ℕ) → n ≤ 7 → n ≡ flags (not (eqb (bit_and n 1) 0)) (not (eqb (bit_and n 2) 0)) (not (eqb (bit_and n 4) 0))
flags_read zero small = refl
flags_read (suc zero) small = refl
flags_read (suc (suc zero)) small = refl
flags_read (suc (suc (suc zero))) small = refl
flags_read (suc (suc (suc (suc zero)))) small = refl
flags_read (suc (suc (suc (suc (suc zero))))) small = refl
flags_read (suc (suc (suc (suc (suc (suc zero)))))) small = refl
flags_read (suc (suc (suc (suc (suc (suc (suc zero))))))) small = refl
flags_read (suc (suc (suc (suc (suc (suc (suc (suc n)))))))) small = absurd (omega arith)

-- ---- sizes

pub length-eight_octets : (n : ℕ) → length (eight_octets n) ≡ 8
unfolding eight_octets
length-eight_octets n = refl

pub eight_octets_tell : (n k : ℕ) → n < 2 ^ 64 → k < 2 ^ 64 → eight_octets n ≡ eight_octets k → n ≡ k
unfolding eight_octets
eight_octets_tell n k small little e =
    sym (from_be_bytes-to_be_bytes_8 n small) ∙ ap (from_be_bytes w64) e ∙ from_be_bytes-to_be_bytes_8 k little

-- eight octets are the size that is read from them
pub eight_octets-read : (octets : List ℕ) → length octets ≡ 8 → ((i : ℕ) → get_or octets i 0 < 256) → eight_octets (from_be_bytes w64 octets) ≡ octets
unfolding eight_octets
eight_octets-read octets eight each = be_bytes_8 octets (from_be_bytes w64 octets) eight each refl

-- how many octets a form has for a size doesn't depend on the size
pub length-size_octets : (long : Bool) (n k : ℕ) → length (size_octets long n) ≡ length (size_octets long k)
length-size_octets false n k = refl
length-size_octets true n k = length-eight_octets n ∙ sym (length-eight_octets k)

pub size_octets_tell : (long : Bool) (n k : ℕ) → n < size_bound long → k < size_bound long → size_octets long n ≡ size_octets long k → n ≡ k
size_octets_tell false n k small little e = cc
size_octets_tell true n k small little e = eight_octets_tell n k small little e

-- lists of one length at the front of one list are one
pub fronts_equal : {A : Type 0} (a b x y : List A) → length a ≡ length b → a ++ x ≡ b ++ y → (a ≡ b) × (x ≡ y)
fronts_equal [] [] x y same e = (refl, e)
fronts_equal [] (q ∷ b) x y same e = absurd (omega arith)
fronts_equal (p ∷ a) [] x y same e = absurd (omega arith)
fronts_equal (p ∷ a) (q ∷ b) x y same e =
    let tails : a ++ x ≡ b ++ y = cc in
    let heads : p ≡ q = cc in
    let both = fronts_equal a b x y (omega arith) tails in
    ((let front : a ≡ b = both.0 in cc), both.1)

-- ---- octets

abbrev pub AreOctets : List ℕ → Type 0
AreOctets xs = (i : ℕ) → get_or xs i 0 < 256

pub are_octets_append : (xs ys : List ℕ) → AreOctets xs → AreOctets ys → AreOctets (xs ++ ys)
are_octets_append [] ys each more i = more i
are_octets_append (x ∷ xs) ys each more zero = each 0
are_octets_append (x ∷ xs) ys each more (suc i) = are_octets_append xs ys (λ k. each (suc k)) more i

pub are_octets_zeros : (n : ℕ) → AreOctets (replicate n 0)
are_octets_zeros zero i = omega arith
are_octets_zeros (suc n) zero = omega arith
are_octets_zeros (suc n) (suc i) = are_octets_zeros n i

pub are_octets_drop : (n : ℕ) (xs : List ℕ) → AreOctets xs → AreOctets (drop n xs)
are_octets_drop n [] each i = rw drop-nil (each i)
are_octets_drop zero (x ∷ xs) each i = each i
are_octets_drop (suc n) (x ∷ xs) each i = are_octets_drop n xs (λ k. each (suc k)) i

pub are_octets_behind : (front xs : List ℕ) → AreOctets (front ++ xs) → AreOctets xs
are_octets_behind [] xs each = each
are_octets_behind (x ∷ front) xs each = are_octets_behind front xs (λ k. each (suc k))

pub flags_with : (n : ℕ) (m l c : Bool) → n ≡ flags m l c → m ≡ true → c ≡ true → n ≡ flags true l true
flags_with n m l c e more command = e ∙ ap (λ b. flags b l c) more ∙ ap (λ b. flags true l b) command

pub are_octets_front : (front xs : List ℕ) → AreOctets (front ++ xs) → AreOctets front
are_octets_front [] xs each i = omega arith
are_octets_front (x ∷ front) xs each zero = each 0
are_octets_front (x ∷ front) xs each (suc i) = are_octets_front front xs (λ k. each (suc k)) i

pub size_bounded : (octets : List ℕ) → AreOctets octets → from_be_bytes w64 octets < 2 ^ 64
size_bounded octets each = omega (arith, each 0, each 1, each 2, each 3, each 4, each 5, each 6, each 7)
