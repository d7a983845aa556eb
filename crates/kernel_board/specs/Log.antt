-- The log behind the board: broadcasts have consecutive numbers from 0 on, and the last of them are retained.
use Rattle.std.specs.Prelude.{◌≡◌, ℕ, ◌+◌, ◌-◌, ◌<◌, ◌^◌, List, [], ◌∷◌, ◌++◌, length, drop, min, nat_lt, if◌then◌else◌}
use Rattle.kernel_board.specs.Frames.{Frames}
use Rattle.kernel_board.specs.declared.limit.TheConstants.{KEPT_BROADCASTS}

-- how many are retained
abbrev pub kept_limit : ℕ
kept_limit = KEPT_BROADCASTS

-- the number of the next broadcast, and the broadcasts that are retained, the oldest first
pub record Log : Type 0 where
  pub next : ℕ
  pub items : List Frames

abbrev pub log : ℕ → List Frames → Log
log next items = record { next = next; items = items }

-- what is retained of a list of broadcasts: the last ones
abbrev pub retained : List Frames → List Frames
retained bs = drop (length bs - kept_limit) bs

-- no broadcast has this number: numbers end below it
abbrev pub no_number : ℕ
no_number = 2 ^ 64 - 1

-- the log after one more broadcast; where the numbers have ended it is as before
abbrev pub published : Log → Frames → Log
published k b = if nat_lt k.next no_number then log (k.next + 1) (retained (k.items ++ b ∷ [])) else k

-- the number of the oldest broadcast that is retained, or of the next one where none is
abbrev pub oldest_of : Log → ℕ
oldest_of k = k.next - length k.items

-- as many are retained as were published, up to the limit
abbrev pub IsLog : Log → Type 0
IsLog k = (k.next < 2 ^ 64) × (length k.items ≡ min k.next kept_limit)
