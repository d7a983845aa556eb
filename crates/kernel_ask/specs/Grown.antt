-- The code's own words: what stands at the end of code points, after one more of them.
use Rattle.std.specs.Prelude.{ℕ, List, [], ◌∷◌, ◌++◌, if◌then◌else◌}
use Rattle.kernel_ask.specs.Cursor.{is_letter, goes_on}

-- a name
abbrev pub grown_name : List ℕ → ℕ → List ℕ
grown_name [] c = if is_letter c then c ∷ [] else []
grown_name (x ∷ xs) c = if goes_on c then (x ∷ xs) ++ c ∷ [] else []

-- a run of letters, digits and `_`
abbrev pub grown_run : List ℕ → ℕ → List ℕ
grown_run xs c = if goes_on c then xs ++ c ∷ [] else []
