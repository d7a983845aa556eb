-- How an audit has the tickets in order.
use Rattle.std.specs.Prelude.{◌≡◌, ℕ, ◌+◌, ◌<◌, ◌≤◌, List, length, slice_index_or}
use Rattle.kernel_audit.specs.declared.pass.Ticket.{Ticket}

-- by lanes, and on each lane by numbers, of which no two are the same
abbrev pub IsBefore : Ticket → Ticket → Type 0
IsBefore a b = (a.lane ≤ b.lane) × (a.lane ≡ b.lane → a.number < b.number)

abbrev pub AreByLane : List Ticket → Type 0
AreByLane tickets = (k : ℕ) (d : Ticket) → k + 1 < length tickets → IsBefore (slice_index_or tickets k d) (slice_index_or tickets (k + 1) d)
