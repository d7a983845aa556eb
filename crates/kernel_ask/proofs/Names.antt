-- The declared names, one after another.
use Rattle.std.proofs.Common.{◌≡◌, ℕ, zero, suc, ◌+◌, List, [], ◌∷◌, ◌++◌, length, take, Some, slice_get, refl, ap, ◌∙◌, add-one}
use Rattle.std.specs.Option.{unwrap_or, option_map}
use Rattle.std.proofs.lemmas.List.{length-map}
use Rattle.std.proofs.lemmas.Option.{slice_get-map}
use Rattle.janus_meaning.specs.Syntax.{Name}
use Rattle.janus_meaning.specs.Store.{Val, Store, Bare, Slot}
use Rattle.janus_meaning.specs.World.{size_of, listed}
use Rattle.kernel_ask.specs.Matches.{names_of}

length_more : {A : Type 0} (xs : List A) (x : A) → length (xs ++ x ∷ []) ≡ suc (length xs)
length_more [] x = refl
length_more (y ∷ xs) x = ap suc (length_more xs x)

pub length_listed : (s : Store) → length (listed s) ≡ size_of s
length_listed Bare = refl
length_listed (Slot x v s) = length_more (listed s) (x, v) ∙ ap suc (length_listed s)

pub length_names : (s : Store) → length (names_of s) ≡ size_of s
length_names s = length-map (listed s) (λ (e : Name × Val). e.0) ∙ length_listed s

some_same : {A : Type 0} {x y : A} → Some x ≡ Some y → x ≡ y
some_same {x = x} h = ap (λ o. unwrap_or o x) h

-- the first elements and the next one
pub taken_next : {A : Type 0} (xs : List A) (i : ℕ) (e : A) → slice_get xs i ≡ Some e → take (i + 1) xs ≡ take i xs ++ e ∷ []
taken_next xs i e h = ap (λ n. take n xs) (add-one i) ∙ next xs i e h
  where
    next : {A : Type 0} (xs : List A) (i : ℕ) (e : A) → slice_get xs i ≡ Some e → take (suc i) xs ≡ take i xs ++ e ∷ []
    next [] i e h = absurd (cc h)
    next (d ∷ xs) zero e h = ap (λ x. x ∷ []) (some_same h)
    next (d ∷ xs) (suc i) e h = ap (λ t. d ∷ t) (next xs i e h)

pub name_more : (s : Store) (i : ℕ) (e : Name × Val) → slice_get (listed s) i ≡ Some e → take (i + 1) (names_of s) ≡ take i (names_of s) ++ e.0 ∷ []
name_more s i e h = taken_next (names_of s) i e.0 (slice_get-map (λ (e : Name × Val). e.0) (listed s) i ∙ ap (option_map (λ (e : Name × Val). e.0)) h)
