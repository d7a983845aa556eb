-- The lines of an input, one after the other.
use Rattle.std.proofs.Common.{◌≡◌, ◌∙◌, ◌==◌, ◌<◌, ◌+◌, ◌-◌, arith, ℕ, suc, Bool, true, false, not, cond, List, [], ◌∷◌, ◌++◌, length, refl, sym, ap, subst}
use Rattle.std.specs.List.{slice_split, onto_first, position_or_len, before_first, after_first}
use Rattle.std.proofs.lemmas.Bool.{eqb-true}
use Rattle.std.proofs.lemmas.List.{length-drop}
use Rattle.std.proofs.lemmas.List.Splits.{slice_split_first}
use Rattle.std.proofs.lemmas.List.Folds.{list_all-append}
use Rattle.std.specs.Prelude.{◌||◌, ◌&&◌, slice_index}
use Rattle.cells_program.specs.Lines.{lines, lines_of_parts, is_blank, is_trimmed, is_command_line}

-- a part with another behind it is a line
line_then : (part next : List ℕ) (more : List (List ℕ)) → lines_of_parts (part ∷ next ∷ more) ≡ part ∷ lines_of_parts (next ∷ more)
line_then [] next more = refl
line_then (c ∷ part) next more = refl

onto_some : {A : Type 0} (x : A) (parts : List (List A)) → (first : List A) × (rest : List (List A)) × (onto_first x parts ≡ first ∷ rest)
onto_some x [] = (x ∷ [], [], refl)
onto_some x (part ∷ parts) = (x ∷ part, parts, refl)

some_by : {A : Type 0} (b : Bool) (x : A) (parts : List (List A)) → (first : List A) × (rest : List (List A)) ×
    (cond b ([] ∷ parts) (onto_first x parts) ≡ first ∷ rest)
some_by true x parts = ([], parts, refl)
some_by false x parts = onto_some x parts

-- there is a part always
pub some_part : {A : Type 0} (p : A → Bool) (xs : List A) → (first : List A) × (rest : List (List A)) × (slice_split p xs ≡ first ∷ rest)
some_part p [] = ([], [], refl)
some_part p (x ∷ xs) = some_by (p x) x (slice_split p xs)

line_then_parts : (part : List ℕ) (parts : List (List ℕ)) → (first : List ℕ) × (rest : List (List ℕ)) × (parts ≡ first ∷ rest) →
    lines_of_parts (part ∷ parts) ≡ part ∷ lines_of_parts parts
line_then_parts part parts (first, rest, e) = subst (λ ps. lines_of_parts (part ∷ ps) ≡ part ∷ lines_of_parts ps) (sym e) (line_then part first rest)

-- the octets before the first LF are the first line
pub first_line : (xs : List ℕ) → position_or_len (λ b. b == 10) xs < length xs →
    lines xs ≡ before_first (λ b. b == 10) xs ∷ lines (after_first (λ b. b == 10) xs)
first_line xs h =
    let p : ℕ → Bool = λ b. b == 10 in
    ap lines_of_parts (slice_split_first p xs 0 h) ∙ line_then_parts (before_first p xs) (slice_split p (after_first p xs)) (some_part p (after_first p xs))

whole_by : (p : ℕ → Bool) (b : Bool) (x : ℕ) (xs : List ℕ) → cond (not b) (1 + position_or_len p xs) 0 ≡ suc (length xs)
    → (position_or_len p xs ≡ length xs → slice_split p xs ≡ xs ∷ []) → cond b ([] ∷ slice_split p xs) (onto_first x (slice_split p xs)) ≡ (x ∷ xs) ∷ []
whole_by p true x xs h more = absurd (cc h)
whole_by p false x xs h more = ap (onto_first x) (more (omega (arith, h)))

-- with no LF there is one part
whole : (p : ℕ → Bool) (xs : List ℕ) → position_or_len p xs ≡ length xs → slice_split p xs ≡ xs ∷ []
whole p [] h = refl
whole p (x ∷ xs) h = whole_by p (p x) x xs h (whole p xs)

one_line : (xs : List ℕ) → 0 < length xs → lines_of_parts (xs ∷ []) ≡ xs ∷ []
one_line [] h = absurd (omega (arith, h))
one_line (x ∷ xs) h = refl

-- with no LF what is there is the last line
pub last_line : (xs : List ℕ) → position_or_len (λ b. b == 10) xs ≡ length xs → 0 < length xs → lines xs ≡ xs ∷ []
last_line xs h some = ap lines_of_parts (whole (λ b. b == 10) xs h) ∙ one_line xs some

pub no_line : (xs : List ℕ) → length xs ≡ 0 → lines xs ≡ []
no_line [] h = refl
no_line (x ∷ xs) h = absurd (cc h)

-- the same of what a cut at the first LF gives
pub cut_lines : (xs line more : List ℕ) → line ≡ before_first (λ b. b == 10) xs → more ≡ after_first (λ b. b == 10) xs →
    position_or_len (λ b. b == 10) xs < length xs → lines xs ≡ line ∷ lines more
cut_lines xs line more e f h = first_line xs h ∙ ap (λ l. l ∷ lines (after_first (λ b. b == 10) xs)) (sym e) ∙ ap (λ m. line ∷ lines m) (sym f)

pub cut_shorter : (xs more : List ℕ) → more ≡ after_first (λ b. b == 10) xs → position_or_len (λ b. b == 10) xs < length xs → length more < length xs
cut_shorter xs more f h =
    let n = position_or_len (λ b. b == 10) xs in
    let l : length more ≡ length xs - (n + 1) = ap length f ∙ length-drop (n + 1) xs in
    omega (arith, l, h)

pub some_octets : (xs : List ℕ) → false ≡ (length xs == 0) → 0 < length xs
some_octets [] h = absurd (cc h)
some_octets (x ∷ xs) h = omega arith

pub no_octets : (xs : List ℕ) → true ≡ (length xs == 0) → length xs ≡ 0
no_octets xs h = eqb-true (length xs) 0 (sym h)

-- whether the first octet is `%`
pub command_test : (xs : List ℕ) → (slice_index xs 0 == 37) ≡ is_command_line xs
command_test [] = refl
command_test (x ∷ xs) = refl

nor : (a b : Bool) → not (a && (b && true)) ≡ (not a || not b)
nor true true = refl
nor true false = refl
nor false true = refl
nor false false = refl

-- one line more is blank if both are
pub blank_more : (text line : List ℕ) → not (is_blank (text ++ (line ++ 10 ∷ []))) ≡ (not (is_blank text) || not (is_blank line))
blank_more text line =
    let p : ℕ → Bool = λ c. is_trimmed c || (c == 10) in
    ap not (list_all-append p text (line ++ 10 ∷ []) ∙ ap (λ b. is_blank text && b) (list_all-append p line (10 ∷ []))) ∙ nor (is_blank text) (is_blank line)
