-- Which words of a command line run, how many steps they give each cell, and whether they ask for explanations.
use Rattle.std.specs.Prelude.{◌≡◌, ◌≤◌, ℕ, Bool, List, [], ◌∷◌, ◌++◌, codes, drop, filter, not, ◌||◌, if◌then◌else◌}
use Rattle.std.specs.List.{list_any}
use Rattle.std.specs.Str.{bytes_eq}
use Rattle.std.specs.Str.Parse.{IsNumeral, digits_value, without_leading_plus}
use Rattle.janus_meaning.specs.Limit.{step_limit}
use Rattle.cells_program.specs.declared.choice.Choice.{Choice}

-- the number of steps where the words name none
abbrev pub default_steps : ℕ
default_steps = 10_000_000

-- a number of steps that may be asked for
abbrev pub IsSteps : ℕ → Type 0
IsSteps n = (1 ≤ n) × (n ≤ step_limit)

-- decimal digits, perhaps behind a plus, that write this number
abbrev pub Writes : List ℕ → ℕ → Type 0
Writes text n = IsNumeral 10 (without_leading_plus text) × (n ≡ digits_value 10 (without_leading_plus text))

-- the words of the option: none, or `--steps N`, or `--steps=N`
pub data Chooses : List (List ℕ) → ℕ → Type 0 where
  by_default : Chooses [] default_steps
  in_two_words : {text : List ℕ} {n : ℕ} → Writes text n → IsSteps n → Chooses (codes "--steps" ∷ text ∷ []) n
  in_one_word : {text : List ℕ} {n : ℕ} → Writes text n → IsSteps n → Chooses ((codes "--steps=" ++ text) ∷ []) n

-- the words of a command line that runs: the program's name, the option, and perhaps `--` behind it; or no word at all
pub data Runs : List (List ℕ) → ℕ → Type 0 where
  without_name : Runs [] default_steps
  with_option : {name : List ℕ} {option : List (List ℕ)} {n : ℕ} → Chooses option n → Runs (name ∷ option) n
  with_end : {name : List ℕ} {option : List (List ℕ)} {n : ℕ}
      → Chooses option n → Runs (name ∷ (option ++ codes "--" ∷ [])) n

-- the word that asks for explanations
abbrev pub is_explain : List ℕ → Bool
is_explain word = bytes_eq word (codes "--explain")

-- the words but those; the first one is the program's name, whatever it is
abbrev pub plain_words : List (List ℕ) → List (List ℕ)
plain_words [] = []
plain_words (name ∷ words) = name ∷ filter (λ word. not (is_explain word)) words

-- words that run for this choice: behind the name those that ask for explanations may stand anywhere, and the others run for its steps
abbrev pub RunsFor : List (List ℕ) → Choice → Type 0
RunsFor words choice = Runs (plain_words words) choice.steps × (choice.explains ≡ list_any is_explain (drop 1 words))

-- what one more word adds to the plain ones: a word for the contract of a private function
abbrev pub plain_of : Bool → List ℕ → List (List ℕ)
plain_of is_name word = if is_name || not (is_explain word) then word ∷ [] else []
