-- Lists, each at its index.
use Rattle.std.specs.Prelude.{ℕ, ℤ, List, [], slice_index_or}

-- the list at an index
abbrev pub list_of : List (List ℤ) → ℕ → List ℤ
list_of ls i = slice_index_or ls i []
