-- The code's own words: names that are put into a set, one after another.
use Rattle.std.specs.Prelude.{ℕ, nat_eq, List, [], ◌∷◌, if◌then◌else◌}
use Rattle.std.specs.List.{starts_with}
use Rattle.kernel_text.specs.NameSets.{with_name}

-- with the name, if it begins with the prefix
abbrev pub with_match : List ℕ → List (List ℕ) → List ℕ → List (List ℕ)
with_match prefix known name = if starts_with nat_eq name prefix then with_name known name else known

-- with those of the names that begin with the prefix
abbrev pub with_matches : List ℕ → List (List ℕ) → List (List ℕ) → List (List ℕ)
with_matches prefix known [] = known
with_matches prefix known (name ∷ names) = with_matches prefix (with_match prefix known name) names
