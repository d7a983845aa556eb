use Rattle.std.proofs.Common.{◌≡◌, ℕ, Bool, true, ◌&&◌, nat_lt, List, [], ◌∷◌, refl, ltb-true}
use Rattle.std.specs.Str.{IsAscii, is_utf8}
use Rattle.std.proofs.lemmas.Bool.{and_parts}
use Rattle.std.proofs.lemmas.Str.{is_utf8-from_IsUtf8, IsUtf8-from_ascii}
use Rattle.std.proofs.lemmas.Str.Ascii.{IsAscii-nil, IsAscii-cons}
use Rattle.kernel_places.proofs.threads.service.Service.stamp.Goals as goal

abbrev are_ascii : List ℕ → Bool
are_ascii [] = true
are_ascii (x ∷ xs) = nat_lt x 128 && are_ascii xs

all_ascii : (xs : List ℕ) → are_ascii xs ≡ true → IsAscii xs
all_ascii [] e = IsAscii-nil
all_ascii (x ∷ xs) e = let p = and_parts _ _ e in IsAscii-cons x xs (ltb-true _ _ p.0) (all_ascii xs p.1)

ascii_is_utf8 : (xs : List ℕ) → are_ascii xs ≡ true → is_utf8 xs ≡ true
ascii_is_utf8 xs e = is_utf8-from_IsUtf8 xs (IsUtf8-from_ascii xs (all_ascii xs e))

-- the date before a desk has set one is ASCII
pub invariant_of-result : goal.invariant_of-result
invariant_of-result g c = record { dated = ascii_is_utf8 _ refl }
