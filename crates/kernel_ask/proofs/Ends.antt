-- The name and the run at the end of code points, after one more of them.
use Rattle.std.proofs.Common.{◌≡◌, ℕ, Bool, true, false, ◌&&◌, ◌||◌, ◌==◌, List, [], ◌∷◌, ◌++◌, length, take, get_or, ◌<◌, ◌≤◌, ◌+◌, refl, sym, ap, ◌∙◌, arith}
use Rattle.std.proofs.Common.{if◌then◌else◌}
use Rattle.std.specs.List.{list_all}
use Rattle.std.proofs.lemmas.List.{take_more}
use Rattle.kernel_ask.specs.Cursor.{is_letter, is_digit, goes_on, is_name, longest_end}
use Rattle.kernel_ask.specs.Grown.{grown_name, grown_run}

and_true : (b : Bool) → b && true ≡ b
and_true true = refl
and_true false = refl

and_assoc : (a b c : Bool) → a && (b && c) ≡ (a && b) && c
and_assoc true b c = refl
and_assoc false b c = refl

all_more : (p : ℕ → Bool) (xs : List ℕ) (c : ℕ) → list_all p (xs ++ c ∷ []) ≡ list_all p xs && p c
all_more p [] c = and_true (p c)
all_more p (x ∷ xs) c = ap (λ b. p x && b) (all_more p xs c) ∙ and_assoc (p x) (list_all p xs) (p c)

-- ---- names

alone : (l : Bool) (c : ℕ) → (if l && true then c ∷ [] else []) ≡ (if l then c ∷ [] else [])
alone true c = refl
alone false c = refl

first_false : (l d u : Bool) → (l || d || u) ≡ false → l ≡ false
first_false true d u e = e
first_false false d u e = refl

name_dropped : (ys : List ℕ) (c : ℕ) → goes_on c ≡ false → grown_name ys c ≡ []
name_dropped [] c e = ap (λ b. if b then c ∷ [] else []) (first_false (is_letter c) (is_digit c) (c == 95) e)
name_dropped (y ∷ ys) c e = ap (λ b. if b then (y ∷ ys) ++ c ∷ [] else []) e

name_by_cases : (a g : Bool) (x : ℕ) (xs : List ℕ) (c : ℕ) (rest more : List ℕ) → goes_on c ≡ g → more ≡ grown_name rest c
    → (if a && g then x ∷ (xs ++ c ∷ []) else more) ≡ grown_name (if a then x ∷ xs else rest) c
name_by_cases true true x xs c rest more e h = sym (ap (λ b. if b then (x ∷ xs) ++ c ∷ [] else []) e)
name_by_cases true false x xs c rest more e h = h ∙ name_dropped rest c e ∙ sym (name_dropped (x ∷ xs) c e)
name_by_cases false g x xs c rest more e h = h

name_end_more : (xs : List ℕ) (c : ℕ) → longest_end is_name (xs ++ c ∷ []) ≡ grown_name (longest_end is_name xs) c
name_end_more [] c = alone (is_letter c) c
name_end_more (x ∷ xs) c =
    ap (λ b. if b then x ∷ (xs ++ c ∷ []) else longest_end is_name (xs ++ c ∷ []))
    (ap (λ b. is_letter x && b) (all_more goes_on xs c) ∙ and_assoc (is_letter x) (list_all goes_on xs) (goes_on c))
    ∙ name_by_cases (is_name (x ∷ xs)) (goes_on c) x xs c (longest_end is_name xs) (longest_end is_name (xs ++ c ∷ [])) refl (name_end_more xs c)

pub name_end_step : (cs : List ℕ) (i : ℕ) → i < length cs → longest_end is_name (take (i + 1) cs) ≡ grown_name (longest_end is_name (take i cs)) (get_or cs i 0)
name_end_step cs i h = ap (longest_end is_name) (take_more cs i 0 h) ∙ name_end_more (take i cs) (get_or cs i 0)

-- ---- runs

run_dropped : (ys : List ℕ) (c : ℕ) → goes_on c ≡ false → grown_run ys c ≡ []
run_dropped ys c e = ap (λ b. if b then ys ++ c ∷ [] else []) e

run_by_cases : (a g : Bool) (x : ℕ) (xs : List ℕ) (c : ℕ) (rest more : List ℕ) → goes_on c ≡ g → more ≡ grown_run rest c
    → (if a && g then x ∷ (xs ++ c ∷ []) else more) ≡ grown_run (if a then x ∷ xs else rest) c
run_by_cases true true x xs c rest more e h = sym (ap (λ b. if b then (x ∷ xs) ++ c ∷ [] else []) e)
run_by_cases true false x xs c rest more e h = h ∙ run_dropped rest c e ∙ sym (run_dropped (x ∷ xs) c e)
run_by_cases false g x xs c rest more e h = h

run_end_more : (xs : List ℕ) (c : ℕ) → longest_end (list_all goes_on) (xs ++ c ∷ []) ≡ grown_run (longest_end (list_all goes_on) xs) c
run_end_more [] c = alone (goes_on c) c
run_end_more (x ∷ xs) c =
    ap (λ b. if b then x ∷ (xs ++ c ∷ []) else longest_end (list_all goes_on) (xs ++ c ∷ []))
    (ap (λ b. goes_on x && b) (all_more goes_on xs c) ∙ and_assoc (goes_on x) (list_all goes_on xs) (goes_on c))
    ∙ run_by_cases (list_all goes_on (x ∷ xs)) (goes_on c) x xs c (longest_end (list_all goes_on) xs) (longest_end (list_all goes_on) (xs ++ c ∷ [])) refl
    (run_end_more xs c)

pub run_end_step : (cs : List ℕ) (i : ℕ) → i < length cs →
    longest_end (list_all goes_on) (take (i + 1) cs) ≡ grown_run (longest_end (list_all goes_on) (take i cs)) (get_or cs i 0)
run_end_step cs i h = ap (longest_end (list_all goes_on)) (take_more cs i 0 h) ∙ run_end_more (take i cs) (get_or cs i 0)

-- ---- lengths

shorter : (b : Bool) (x : ℕ) (xs rest : List ℕ) → length rest ≤ length xs → length (if b then x ∷ xs else rest) ≤ length (x ∷ xs)
shorter true x xs rest h = omega arith
shorter false x xs rest h = omega arith

pub length_name_end : (cs : List ℕ) → length (longest_end is_name cs) ≤ length cs
length_name_end [] = omega arith
length_name_end (c ∷ cs) = shorter (is_name (c ∷ cs)) c cs (longest_end is_name cs) (length_name_end cs)
