-- What a read from a place answers. A place is the number of a broadcast: of the first that is wanted.
use Rattle.std.specs.Prelude.{◌≡◌, ℕ, ◌+◌, ◌-◌, ◌<◌, ◌≤◌, List, length, drop, take}
use Rattle.kernel_board.specs.declared.log.Read.{Read}
use Rattle.kernel_board.specs.declared.log.Read.TheVariants.{Got, Lagged}
use Rattle.kernel_board.specs.Frames.{Frames}
use Rattle.kernel_board.specs.Log.{Log, oldest_of}
use Rattle.kernel_board.specs.declared.limit.TheConstants.{BROADCASTS_OF_A_READ}

-- how many are given at most
abbrev pub read_limit : ℕ
read_limit = BROADCASTS_OF_A_READ

-- the retained broadcasts from a place on, as many as there are up to the limit
abbrev pub batch_from : Log → ℕ → List Frames
batch_from k place = take read_limit (drop (place - oldest_of k) k.items)

-- Lagged where the place is below the oldest that is retained, with that one's place. Else Got with the broadcasts from the place on,
-- and the next place is the place plus their count.
abbrev pub IsRead : Log → ℕ → Read → Type 0
IsRead k place (Got v next) = (oldest_of k ≤ place) × (v.items ≡ batch_from k place) × (next.number ≡ place + length v.items)
IsRead k place (Lagged oldest) = (place < oldest_of k) × (oldest.number ≡ oldest_of k)

-- there are retained broadcasts from the place on: only then a read takes memory
abbrev pub HasNews : Log → ℕ → Type 0
HasNews k place = (oldest_of k ≤ place) × (place < k.next)
