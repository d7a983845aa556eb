-- Signs as the lexer finds them.
use Rattle.std.proofs.Common.{◌≡◌, ◌≢◌, ℕ, ◌≤◌, ◌==◌, ◌⊎◌, inl, inr, List, [], ◌∷◌, ◌++◌, length, get_or, drop, Bool, true, false, Option, Some, None, refl, ap}
use Rattle.std.proofs.Common.{sym, ◌∙◌, arith}
use Rattle.std.specs.Prelude.{IfSome}
use Rattle.std.proofs.lemmas.Bool.Decides.{nat_tests}
use Rattle.janus_syntax.specs.declared.token.Sign.{Sign}
use Rattle.janus_syntax.specs.declared.token.Sign.TheVariants as sign
use Rattle.janus_syntax.specs.Spelling.{sign_text}
use Rattle.janus_syntax.specs.Scan.{IsLongestSign, is_swap, pair_of, single_of}

-- octets that begin a text, none of which is 0

three_octets : (xs : List ℕ) → is_swap (get_or xs 0 0) (get_or xs 1 0) (get_or xs 2 0) ≡ true → xs ≡ 60 ∷ 61 ∷ 62 ∷ drop 3 xs
three_octets [] h = absurd cc
three_octets (x ∷ []) h = absurd (grind (arith, nat_tests))
three_octets (x ∷ y ∷ []) h = absurd (grind (arith, nat_tests))
three_octets (x ∷ y ∷ z ∷ r) h =
    let a : x ≡ 60 = grind (arith, nat_tests) in
    let b : y ≡ 61 = grind (arith, nat_tests) in
    let c : z ≡ 62 = grind (arith, nat_tests) in
    ap (λ n. n ∷ y ∷ z ∷ r) a ∙ ap (λ n. 60 ∷ n ∷ z ∷ r) b ∙ ap (λ n. 60 ∷ 61 ∷ n ∷ r) c

two_octets : (xs : List ℕ) → get_or xs 1 0 ≢ 0 → xs ≡ get_or xs 0 0 ∷ get_or xs 1 0 ∷ drop 2 xs
two_octets [] h = absurd (h refl)
two_octets (x ∷ []) h = absurd (h refl)
two_octets (x ∷ y ∷ r) h = refl

one_octet : (xs : List ℕ) → get_or xs 0 0 ≢ 0 → xs ≡ get_or xs 0 0 ∷ drop 1 xs
one_octet [] h = absurd (h refl)
one_octet (x ∷ r) h = refl

-- a sign of two octets, and of one octet, with what finds it

record IsPair (s : Sign) : Type 0 where
  size : length (sign_text s) ≡ 2
  seen : (get_or (sign_text s) 1 0 == 0) ≡ false
  found : (rest : List ℕ) → pair_of (get_or (sign_text s ++ rest) 0 0) (get_or (sign_text s ++ rest) 1 0) ≡ Some s

record IsSingle (s : Sign) : Type 0 where
  size : length (sign_text s) ≡ 1
  seen : (get_or (sign_text s) 0 0 == 0) ≡ false
  found : (rest : List ℕ) → single_of (get_or (sign_text s ++ rest) 0 0) ≡ Some s

kind_of : (s : Sign) → (s ≡ sign.Swap) ⊎ (IsPair s ⊎ IsSingle s)
kind_of sign.PlusEquals = inr (inl (record { size = refl; seen = refl; found = λ rest. refl }))
kind_of sign.MinusEquals = inr (inl (record { size = refl; seen = refl; found = λ rest. refl }))
kind_of sign.XorEquals = inr (inl (record { size = refl; seen = refl; found = λ rest. refl }))
kind_of sign.Swap = inl refl
kind_of sign.Plus = inr (inr (record { size = refl; seen = refl; found = λ rest. refl }))
kind_of sign.Minus = inr (inr (record { size = refl; seen = refl; found = λ rest. refl }))
kind_of sign.Times = inr (inr (record { size = refl; seen = refl; found = λ rest. refl }))
kind_of sign.Divide = inr (inr (record { size = refl; seen = refl; found = λ rest. refl }))
kind_of sign.Remainder = inr (inr (record { size = refl; seen = refl; found = λ rest. refl }))
kind_of sign.Xor = inr (inr (record { size = refl; seen = refl; found = λ rest. refl }))
kind_of sign.BitAnd = inr (inr (record { size = refl; seen = refl; found = λ rest. refl }))
kind_of sign.And = inr (inl (record { size = refl; seen = refl; found = λ rest. refl }))
kind_of sign.BitOr = inr (inr (record { size = refl; seen = refl; found = λ rest. refl }))
kind_of sign.Or = inr (inl (record { size = refl; seen = refl; found = λ rest. refl }))
kind_of sign.Equals = inr (inr (record { size = refl; seen = refl; found = λ rest. refl }))
kind_of sign.Differs = inr (inl (record { size = refl; seen = refl; found = λ rest. refl }))
kind_of sign.Less = inr (inr (record { size = refl; seen = refl; found = λ rest. refl }))
kind_of sign.Greater = inr (inr (record { size = refl; seen = refl; found = λ rest. refl }))
kind_of sign.AtMost = inr (inl (record { size = refl; seen = refl; found = λ rest. refl }))
kind_of sign.AtLeast = inr (inl (record { size = refl; seen = refl; found = λ rest. refl }))
kind_of sign.Open = inr (inr (record { size = refl; seen = refl; found = λ rest. refl }))
kind_of sign.Close = inr (inr (record { size = refl; seen = refl; found = λ rest. refl }))
kind_of sign.OpenIndex = inr (inr (record { size = refl; seen = refl; found = λ rest. refl }))
kind_of sign.CloseIndex = inr (inr (record { size = refl; seen = refl; found = λ rest. refl }))
kind_of sign.Comma = inr (inr (record { size = refl; seen = refl; found = λ rest. refl }))

pub swap_seen : (xs : List ℕ) (a b c : ℕ) (r : Bool) → a ≡ get_or xs 0 0 → b ≡ get_or xs 1 0 → c ≡ get_or xs 2 0 → is_swap a b c ≡ r →
    is_swap (get_or xs 0 0) (get_or xs 1 0) (get_or xs 2 0) ≡ r
swap_seen xs a b c r e f g h = rw (sym e, sym f, sym g) h

at_most_three : (s : Sign) → length (sign_text s) ≤ 3
at_most_three s = elim (kind_of s) [
  | inl swap ↦ let k = ap (λ t. length (sign_text t)) swap in omega (arith, k)
  | inr (inl pair) ↦ omega (arith, pair.size)
  | inr (inr single) ↦ omega (arith, single.size)
]

pub swap_is_longest : (xs : List ℕ) → is_swap (get_or xs 0 0) (get_or xs 1 0) (get_or xs 2 0) ≡ true → IsLongestSign xs (Some sign.Swap)
swap_is_longest xs h = ((drop 3 xs, three_octets xs h), λ t rest e. at_most_three t)

no_swap : (xs rest : List ℕ) → is_swap (get_or xs 0 0) (get_or xs 1 0) (get_or xs 2 0) ≡ false → xs ≡ 60 ∷ 61 ∷ 62 ∷ rest → ⊥
no_swap xs rest h e = let k = ap (λ l. is_swap (get_or l 0 0) (get_or l 1 0) (get_or l 2 0)) e in absurd cc

pub pair_is_longest : (xs : List ℕ) (s : Sign) → is_swap (get_or xs 0 0) (get_or xs 1 0) (get_or xs 2 0) ≡ false →
    sign_text s ≡ get_or xs 0 0 ∷ get_or xs 1 0 ∷ [] → IsLongestSign xs (Some s)
pair_is_longest xs s h text =
    let size = ap length text in
    let second : get_or (sign_text s) 1 0 ≡ get_or xs 1 0 = ap (λ l. get_or l 1 0) text in
    let seen : get_or xs 1 0 ≢ 0 = λ zero. elim (kind_of s) [
      | inl swap ↦ let k = ap (λ t. length (sign_text t)) swap in absurd (omega (arith, k, size))
      | inr (inl pair) ↦ let k = pair.seen in absurd (grind (arith, nat_tests))
      | inr (inr single) ↦ let k = single.size in absurd (omega (arith, k, size))
    ] in (
      (drop 2 xs, two_octets xs seen ∙ ap (λ l. l ++ drop 2 xs) (sym text)),
      λ t rest e. elim (kind_of t) [
        | inl swap ↦ absurd (no_swap xs rest h (e ∙ ap (λ u. sign_text u ++ rest) swap))
        | inr (inl pair) ↦ omega (arith, pair.size, size)
        | inr (inr single) ↦ omega (arith, single.size, size)
      ],
    )

no_pair : (xs rest : List ℕ) (t : Sign) → IsPair t → pair_of (get_or xs 0 0) (get_or xs 1 0) ≡ None → xs ≡ sign_text t ++ rest → ⊥
no_pair xs rest t pair none e =
    let k = pair.found rest in
    let n : pair_of (get_or (sign_text t ++ rest) 0 0) (get_or (sign_text t ++ rest) 1 0) ≡ None = ap (λ l. pair_of (get_or l 0 0) (get_or l 1 0)) (sym e)
    ∙ none in
    absurd cc

-- the sign of one octet, or none, where no longer one begins the text
pub single_is_longest : (xs : List ℕ) (o : Option Sign) → is_swap (get_or xs 0 0) (get_or xs 1 0) (get_or xs 2 0) ≡ false →
    pair_of (get_or xs 0 0) (get_or xs 1 0) ≡ None →
    o ≡ single_of (get_or xs 0 0) → IfSome o (λ s. sign_text s ≡ get_or xs 0 0 ∷ []) → IsLongestSign xs o
single_is_longest xs None h none is text = λ t rest e. elim (kind_of t) [
  | inl swap ↦ no_swap xs rest h (e ∙ ap (λ u. sign_text u ++ rest) swap)
  | inr (inl pair) ↦ no_pair xs rest t pair none e
  | inr (inr single) ↦ let k = single.found rest in let n : None ≡ single_of (get_or (sign_text t ++ rest) 0 0) = is ∙ ap (λ l. single_of (get_or l 0 0)) e in
      absurd cc
]
single_is_longest xs (Some s) h none is text =
    let size = ap length text in
    let first : get_or (sign_text s) 0 0 ≡ get_or xs 0 0 = ap (λ l. get_or l 0 0) text in
    let seen : get_or xs 0 0 ≢ 0 = λ zero. elim (kind_of s) [
      | inl swap ↦ let k = ap (λ t. length (sign_text t)) swap in absurd (omega (arith, k, size))
      | inr (inl pair) ↦ let k = pair.size in absurd (omega (arith, k, size))
      | inr (inr single) ↦ let k = single.seen in absurd (grind (arith, nat_tests))
    ] in (
      (drop 1 xs, one_octet xs seen ∙ ap (λ l. l ++ drop 1 xs) (sym text)),
      λ t rest e. elim (kind_of t) [
        | inl swap ↦ absurd (no_swap xs rest h (e ∙ ap (λ u. sign_text u ++ rest) swap))
        | inr (inl pair) ↦ absurd (no_pair xs rest t pair none e)
        | inr (inr single) ↦ omega (arith, single.size, size)
      ],
    )
