-- The open comms (Jupyter messaging page, "Custom Messages"), as their ids in the order of their octets.
use Rattle.std.specs.Prelude.{ℕ, Bool, ◌&&◌, not, nat_lt, List, length, if◌then◌else◌}
use Rattle.std.specs.Ordering.{nat_cmp, is_eq}
use Rattle.std.specs.Cmp.Lexicographic.{slice_cmp}
use Rattle.std.specs.List.{list_any}
use Rattle.std.specs.BTreeSet.{insert_key}
use Rattle.std.specs.Set.{remove_key}
use Rattle.kernel_ask.specs.declared.limit.TheConstants.{COMM_LIMIT}

-- how many may be open
abbrev pub comm_limit : ℕ
comm_limit = COMM_LIMIT

-- the same octets
abbrev pub is_same : List ℕ → List ℕ → Bool
is_same x y = is_eq (slice_cmp nat_cmp x y)

abbrev pub is_open : List (List ℕ) → List ℕ → Bool
is_open ids id = list_any (is_same id) ids

-- a comm can be opened that is not open, while fewer are than may be
abbrev pub can_open : List (List ℕ) → List ℕ → Bool
can_open ids id = nat_lt (length ids) comm_limit && not (is_open ids id)

-- the comms after an open, which changes nothing where the comm can't be opened
abbrev pub opened : List (List ℕ) → List ℕ → List (List ℕ)
opened ids id = if can_open ids id then insert_key (slice_cmp nat_cmp) ids id else ids

-- the comms after a close
abbrev pub without_id : List (List ℕ) → List ℕ → List (List ℕ)
without_id ids id = remove_key (is_same id) ids
