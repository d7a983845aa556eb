-- How the counts of subscriptions lie in memory.
use Rattle.std.specs.Prelude.{ℕ, ◌+◌, ◌==◌, Bool, List, [], ◌∷◌, length, map, if◌then◌else◌}
use Rattle.std.specs.Ordering.{is_eq, nat_cmp}
use Rattle.std.specs.Cmp.Lexicographic.{slice_cmp}
use Rattle.std.specs.declared.alloc.Global.{Global}
use Rattle.std.specs.declared.vec.Vec.{Vec}

-- the entries of the map, each key as its octets
abbrev pub table_of : List (Vec ℕ Global × ℕ) → List (List ℕ × ℕ)
table_of es = map (λ e. (e.0.items, e.1)) es

-- the test by which the map finds a prefix
abbrev pub is_key : List ℕ → Vec ℕ Global → Bool
is_key prefix key = is_eq (slice_cmp nat_cmp prefix key.items)

-- 1 at one number, and 0 at all others
abbrev pub one_at : ℕ → ℕ → ℕ
one_at m n = if m == n then 1 else 0

-- how many prefixes in a table have this length
abbrev pub number_of_length : ℕ → List (List ℕ × ℕ) → ℕ
number_of_length n [] = 0
number_of_length n (e ∷ es) = one_at (length e.0) n + number_of_length n es
