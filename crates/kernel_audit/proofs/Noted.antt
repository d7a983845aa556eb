-- What was noted stays noted.
use Rattle.std.proofs.Common.{◌≡◌, ◌∙◌, ℕ, ◌-◌, zero, suc, Bool, true, false, List, [], ◌∷◌, ◌++◌, Some, slice_get, refl, sym, ap, subst}
use mathlib.Core.List.{IsPrefix}
use Rattle.kernel_ask.specs.Wishes.{WishOf}
use Rattle.kernel_audit.specs.declared.note.Note.{Note}
use Rattle.kernel_audit.specs.declared.note.Note.TheVariants.{Posted, Shut, Asked, Changed, Began, Cut, Told}
use Rattle.kernel_audit.specs.Notes.{wished_in, has_shutdown}
use Rattle.kernel_audit.specs.Passes.{IsWished}

pub get_stays : {A : Type 0} (xs ys : List A) (i : ℕ) (y : A) → slice_get xs i ≡ Some y → slice_get (xs ++ ys) i ≡ Some y
get_stays [] ys i y h = absurd (cc h)
get_stays (x ∷ xs) ys zero y h = h
get_stays (x ∷ xs) ys (suc i) y h = get_stays xs ys i y h

pub wished-append : (xs ys : List Note) → wished_in (xs ++ ys) ≡ wished_in xs ++ wished_in ys
wished-append [] ys = refl
wished-append (Posted wishes ∷ xs) ys = ap (λ (l : List (List WishOf)). wishes.items ∷ l) (wished-append xs ys)
wished-append (Shut ∷ xs) ys = wished-append xs ys
wished-append (Asked ∷ xs) ys = wished-append xs ys
wished-append (Changed comms ∷ xs) ys = wished-append xs ys
wished-append (Began told ∷ xs) ys = wished-append xs ys
wished-append (Cut most is_asked told ∷ xs) ys = wished-append xs ys
wished-append (Told done ∷ xs) ys = wished-append xs ys

-- a post keeps its wishes
pub wished_stays : (xs ys : List Note) (number : ℕ) (given : List WishOf) → IsPrefix xs ys → IsWished xs number given → IsWished ys number given
wished_stays xs ys number given p h =
    let all : wished_in xs ++ wished_in p.0 ≡ wished_in ys = sym (wished-append xs p.0) ∙ ap wished_in p.1 in
    subst (λ (l : List (List WishOf)). slice_get l (number - 1) ≡ Some given) all (get_stays (wished_in xs) (wished_in p.0) (number - 1) given h)

shut-append : (xs ys : List Note) → has_shutdown xs ≡ true → has_shutdown (xs ++ ys) ≡ true
shut-append [] ys h = absurd (cc h)
shut-append (Posted wishes ∷ xs) ys h = shut-append xs ys h
shut-append (Shut ∷ xs) ys h = refl
shut-append (Asked ∷ xs) ys h = shut-append xs ys h
shut-append (Changed comms ∷ xs) ys h = shut-append xs ys h
shut-append (Began told ∷ xs) ys h = shut-append xs ys h
shut-append (Cut most is_asked told ∷ xs) ys h = shut-append xs ys h
shut-append (Told done ∷ xs) ys h = shut-append xs ys h

-- who has seen a shutdown has seen it ever after
pub shut_stays : (xs ys : List Note) → IsPrefix xs ys → has_shutdown xs ≡ true → has_shutdown ys ≡ true
shut_stays xs ys p h = sym (ap has_shutdown p.1) ∙ shut-append xs p.0 h

-- so where none came none was seen
pub open_before : (xs ys : List Note) → IsPrefix xs ys → has_shutdown ys ≡ false → has_shutdown xs ≡ false
open_before xs ys p h = by_seen (has_shutdown xs) refl
  where
    by_seen : (seen : Bool) → has_shutdown xs ≡ seen → has_shutdown xs ≡ false
    by_seen false is = is
    by_seen true is = let later = shut_stays xs ys p is in absurd (cc)
