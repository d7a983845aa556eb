-- Words that ask for explanations, and the others.
use Rattle.std.proofs.Common.{◌≡◌, ◌∙◌, ◌<◌, ◌≤◌, ◌+◌, ◌||◌, ◌==◌, ℕ, zero, suc, Bool, false, List, [], ◌∷◌, ◌++◌, drop, get_or, length, map, take, refl, sym, ap}
use Rattle.std.proofs.Common.{subst, arith}
use Rattle.std.specs.Prelude.{not, if◌then◌else◌}
use Rattle.std.specs.List.{list_any}
use Rattle.std.proofs.lemmas.Bool.{ne_eqb}
use Rattle.std.proofs.lemmas.List.{get_or-map, length-map, take_all}
use Rattle.std.proofs.lemmas.List.Elements.{filter_more}
use Rattle.cells_program.specs.CommandLine.{is_explain, plain_of, plain_words}
use Rattle.cells_program.specs.Ending.{AsksForHelp}

any_text : {X : Type 0} (p : List ℕ → Bool) (text : X → List ℕ) (words : List X) → list_any (λ word. p (text word)) words ≡ list_any p (map text words)
any_text p text [] = refl
any_text p text (word ∷ words) = ap (λ b. p (text word) || b) (any_text p text words)

map_drop : {X : Type 0} (text : X → List ℕ) (words : List X) → map text (drop 1 words) ≡ drop 1 (map text words)
map_drop text [] = refl
map_drop text (word ∷ words) = refl

-- one behind the name asks, by its text
pub asks_by_text : {X : Type 0} (text : X → List ℕ) (words : List X) →
    list_any (λ word. is_explain (text word)) (drop 1 words) ≡ list_any is_explain (drop 1 (map text words))
asks_by_text text words = any_text is_explain text (drop 1 words) ∙ ap (list_any is_explain) (map_drop text words)

-- the plain ones of one word more
plain_grown : (ws : List (List ℕ)) (i : ℕ) → i < length ws → plain_words (take (i + 1) ws) ≡ plain_words (take i ws) ++ plain_of (i == 0) (get_or ws i [])
plain_grown [] i h = absurd (omega (arith, h))
plain_grown (w ∷ ws) zero h = refl
plain_grown (w ∷ ws) (suc i) h =
    let next : suc i + 1 ≡ suc (i + 1) = omega arith in
    let later : (suc i == 0) ≡ false = ne_eqb (suc i) 0 (λ e. omega (arith, e)) in
    let x = get_or ws i [] in
    ap (λ k. plain_words (take k (w ∷ ws))) next ∙ ap (λ rest. w ∷ rest) (filter_more (λ word. not (is_explain word)) ws i [] (omega (arith, h)))
    ∙ sym (ap (λ b. plain_words (take (suc i) (w ∷ ws)) ++ (if b || not (is_explain x) then x ∷ [] else [])) later)

-- the same of words by their texts
pub plain_more : {X : Type 0} (text : X → List ℕ) (words : List X) (i : ℕ) (x : X) (w : List ℕ) → i < length words → x ≡ get_or words i x → w ≡ text x →
    plain_words (take (i + 1) (map text words)) ≡ plain_words (take i (map text words)) ++ plain_of (i == 0) w
plain_more text words i x w h is texts =
    let within : i < length (map text words) = subst (λ n. i < n) (sym (length-map words text)) h in
    plain_grown (map text words) i within
    ∙ ap (λ it. plain_words (take i (map text words)) ++ plain_of (i == 0) it) (get_or-map text words i x [] h ∙ sym (texts ∙ ap text is))

pub plain_all : {X : Type 0} (text : X → List ℕ) (words : List X) (i : ℕ) → length words ≤ i →
    plain_words (take i (map text words)) ≡ plain_words (map text words)
plain_all text words i h = ap plain_words (take_all i (map text words) (subst (λ n. n ≤ i) (sym (length-map words text)) h))

-- words that ask for help are plain
pub help_is_plain : (words : List (List ℕ)) → AsksForHelp words → AsksForHelp (plain_words words)
help_is_plain words (name, is) = (name, ap plain_words is)
