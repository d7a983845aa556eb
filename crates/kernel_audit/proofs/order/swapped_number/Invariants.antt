use Rattle.std.proofs.Common.{◌≡◌, ℕ, ◌+◌, ◌<◌, ◌≤◌, slice_index_or}
use Rattle.kernel_audit.specs.declared.pass.Ticket.{Ticket}
use Rattle.kernel_audit.proofs.order.swapped_number.Given as goal

abbrev pub invariant-loop-i : goal.invariant-loop-i
invariant-loop-i l =
    (k : ℕ) (d : Ticket) → k + 1 < l.i → (slice_index_or l.tickets k d).lane ≡ (slice_index_or l.tickets (k + 1) d).lane →
    (slice_index_or l.tickets k d).nth ≤ (slice_index_or l.tickets (k + 1) d).nth
