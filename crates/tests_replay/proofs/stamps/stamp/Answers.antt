use Rattle.std.proofs.Common.{◌≡◌, ℕ, ◌<◌, Bool, true, ◌&&◌, nat_lt, List, [], ◌∷◌, IsUtf8, refl, subst, arith, ltb-true}
use Rattle.std.proofs.lemmas.Bool.{and_parts}
use Rattle.std.proofs.lemmas.Str.{is_utf8-from_IsUtf8, IsUtf8-append, IsUtf8-nil, IsUtf8-encode, encode_ascii}
use lib.Utf8.{low_scalar}
use Rattle.tests_replay.proofs.stamps.stamp.Goals as goal

abbrev are_ascii : List ℕ → Bool
are_ascii [] = true
are_ascii (x ∷ xs) = nat_lt x 128 && are_ascii xs

one_more : (x : ℕ) (xs : List ℕ) → x < 128 → IsUtf8 xs → IsUtf8 (x ∷ xs)
one_more x xs small u = IsUtf8-append (x ∷ []) xs (subst IsUtf8 (encode_ascii x small) (IsUtf8-encode x (low_scalar x (omega arith)))) u

ascii_is_utf8 : (xs : List ℕ) → are_ascii xs ≡ true → IsUtf8 xs
ascii_is_utf8 [] e = IsUtf8-nil
ascii_is_utf8 (x ∷ xs) e = let p = and_parts _ _ e in one_more x xs (ltb-true _ _ p.0) (ascii_is_utf8 xs p.1)

pub invariant_of-result : goal.invariant_of-result
invariant_of-result c = record { dated = is_utf8-from_IsUtf8 _ (ascii_is_utf8 _ refl) }
