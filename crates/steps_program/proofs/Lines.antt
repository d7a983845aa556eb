-- The lines of a text, one after the other.
use Rattle.std.proofs.Common.{◌≡◌, ◌∙◌, ◌==◌, ◌<◌, ◌+◌, ◌-◌, arith, ℕ, suc, Bool, true, false, not, cond, List, [], ◌∷◌, length}
use Rattle.std.proofs.Common.{refl, sym, ap}
use Rattle.std.specs.Prelude.{None, Some}
use Rattle.std.specs.List.{slice_split, onto_first, position_or_len, before_first, after_first}
use Rattle.std.proofs.lemmas.Bool.{eq-eqb, ne_eqb}
use Rattle.std.proofs.lemmas.List.{length-drop}
use Rattle.std.proofs.lemmas.List.Splits.{slice_split_first}
use Rattle.steps_program.specs.Places.{next, line_in, lines_of}

-- with an LF the octets before it are the first line
pub first_of : (xs line more : List ℕ) → line ≡ before_first (λ b. b == 10) xs → more ≡ after_first (λ b. b == 10) xs →
    position_or_len (λ b. b == 10) xs < length xs → lines_of xs ≡ line ∷ lines_of more
first_of xs line more e f h =
    slice_split_first (λ b. b == 10) xs 0 h
    ∙ ap (λ l. l ∷ lines_of (after_first (λ b. b == 10) xs)) (sym e) ∙ ap (λ m. line ∷ lines_of m) (sym f)

pub shorter : (xs more : List ℕ) → more ≡ after_first (λ b. b == 10) xs → position_or_len (λ b. b == 10) xs < length xs → length more < length xs
shorter xs more f h =
    let n = position_or_len (λ b. b == 10) xs in
    let l : length more ≡ length xs - (n + 1) = ap length f ∙ length-drop (n + 1) xs in
    omega (arith, l, h)

whole_by : (p : ℕ → Bool) (b : Bool) (x : ℕ) (xs : List ℕ) → cond (not b) (1 + position_or_len p xs) 0 ≡ suc (length xs) →
    (position_or_len p xs ≡ length xs → slice_split p xs ≡ xs ∷ []) →
    cond b ([] ∷ slice_split p xs) (onto_first x (slice_split p xs)) ≡ (x ∷ xs) ∷ []
whole_by p true x xs h more = absurd (cc h)
whole_by p false x xs h more = ap (onto_first x) (more (omega (arith, h)))

whole : (p : ℕ → Bool) (xs : List ℕ) → position_or_len p xs ≡ length xs → slice_split p xs ≡ xs ∷ []
whole p [] h = refl
whole p (x ∷ xs) h = whole_by p (p x) x xs h (whole p xs)

-- with none there is one line
pub only_one : (xs : List ℕ) → position_or_len (λ b. b == 10) xs ≡ length xs → lines_of xs ≡ xs ∷ []
only_one xs h = whole (λ b. b == 10) xs h

-- ---- the line of a number

module _ (number first : ℕ) (xs line more : List ℕ) (all : lines_of xs ≡ line ∷ lines_of more) where
  pub found_line : first ≡ number → line_in number first (lines_of xs) ≡ Some line
  found_line e =
      ap (line_in number first) all
      ∙ ap (λ b. cond b (Some line) (line_in number (next first) (lines_of more))) (eq-eqb first number e)

  pub next_line : (first ≡ number → ⊥) → line_in number first (lines_of xs) ≡ line_in number (next first) (lines_of more)
  next_line d =
      ap (line_in number first) all
      ∙ ap (λ b. cond b (Some line) (line_in number (next first) (lines_of more))) (ne_eqb first number d)

module _ (number first : ℕ) (xs : List ℕ) (all : lines_of xs ≡ xs ∷ []) where
  pub last_line : first ≡ number → line_in number first (lines_of xs) ≡ Some xs
  last_line e = ap (line_in number first) all ∙ ap (λ b. cond b (Some xs) None) (eq-eqb first number e)

  pub no_line : (first ≡ number → ⊥) → line_in number first (lines_of xs) ≡ None
  no_line d = ap (line_in number first) all ∙ ap (λ b. cond b (Some xs) None) (ne_eqb first number d)
