-- What the audit at the end compares: the minutes, the passes, the tickets, and what was told of ends.
use Rattle.std.specs.Prelude.{◌≡◌, ℕ, ◌<◌, ◌≤◌, ◌==◌, List, All, Contains, ◌⊎◌, sum_by, count_by}
use Rattle.kernel_ask.specs.Request.{request_of}
use Rattle.kernel_ask.specs.Minutes.{Entry, IsNumberOf, posted_in}
use Rattle.kernel_ask.specs.declared.done.Done.{Done}
use Rattle.kernel_audit.specs.declared.fault.AuditFault.{AuditFault}
use Rattle.kernel_audit.specs.declared.fault.AuditFault.TheVariants.{PassMissing, TicketUnknown}
use Rattle.kernel_audit.specs.declared.pass.Ticket.{Ticket}
use Rattle.kernel_audit.specs.Passes.{PassOf}
use Rattle.kernel_audit.specs.Ends.{HasEnd}

-- the posts of the passes add up to those of the minutes
abbrev pub AddsUp : List Entry → List PassOf → Type 0
AddsUp entries passes = sum_by (λ (p : PassOf). p.posts) passes ≡ posted_in entries

-- a ticket's lane and job stand at its number
abbrev pub IsPosted : List Entry → Ticket → Type 0
IsPosted entries t = IsNumberOf entries t.number (record { lane = t.lane; job = request_of t.job })

-- how many tickets have this number
abbrev pub tickets_of : ℕ → List Ticket → ℕ
tickets_of n tickets = count_by (λ (t : Ticket). t.number == n) tickets

-- the second is a later post of the same pass
abbrev pub IsLater : Ticket → Ticket → Type 0
IsLater a b = (a.lane ≡ b.lane) × (a.nth < b.nth)

-- the tickets stand in the minutes, no two share a number, and the numbers rise along the posts of each pass
pub record AreTrue (entries : List Entry) (tickets : List Ticket) : Type 0 where
  pub posted : All (IsPosted entries) tickets
  pub shared : (n : ℕ) → tickets_of n tickets ≤ 1
  pub rising : (a b : Ticket) → Contains tickets a → Contains tickets b → IsLater a b → a.number < b.number

-- some ticket of this number does not stand in the minutes
abbrev pub IsNotPosted : List Entry → List Ticket → ℕ → Type 0
IsNotPosted entries tickets n = (t : Ticket) × Contains tickets t × (t.number ≡ n) × (IsPosted entries t → ⊥)

-- some later post of a pass has this number, which is smaller than that of an earlier one
abbrev pub IsSwapped : List Ticket → ℕ → Type 0
IsSwapped tickets n = (a b : Ticket) × Contains tickets a × Contains tickets b × IsLater a b × (b.number < a.number) × (b.number ≡ n)

-- so one of that does not hold, at this number
abbrev pub IsUntrue : List Entry → List Ticket → ℕ → Type 0
IsUntrue entries tickets n = IsNotPosted entries tickets n ⊎ ((1 < tickets_of n tickets) ⊎ IsSwapped tickets n)

-- some end that was told for this number is not so in the minutes
abbrev pub IsNotEnded : List Entry → List Done → ℕ → Type 0
IsNotEnded entries dones n = (d : Done) × Contains dones d × (d.number ≡ n) × (HasEnd entries d → ⊥)

-- all is as it was told
pub record Audited (entries : List Entry) (passes : List PassOf) (tickets : List Ticket) (dones : List Done) : Type 0 where
  pub adds_up : AddsUp entries passes
  pub true_tickets : AreTrue entries tickets
  pub ended : All (HasEnd entries) dones

-- the posts do not add up; or they do, and something that was told for this number is not so
abbrev pub IsAuditFault : List Entry → List PassOf → List Ticket → List Done → AuditFault → Type 0
IsAuditFault entries passes tickets dones PassMissing = AddsUp entries passes → ⊥
IsAuditFault entries passes tickets dones (TicketUnknown n) = AddsUp entries passes × (IsUntrue entries tickets n ⊎ IsNotEnded entries dones n)
