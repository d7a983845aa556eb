-- What strangers hold.
use Rattle.std.specs.Prelude.{ℕ, ◌-◌, ◌≤◌, Bool, false, if◌then◌else◌}
use Rattle.kernel_sockets.specs.declared.account.Quota.{Quota}
use Rattle.kernel_sockets.specs.declared.account.Quota.TheVariants.{Own, Within, Common}
use Rattle.kernel_sockets.specs.declared.presence.Noted.{Noted}
use Rattle.kernel_sockets.specs.declared.shares.TheConstants.{OWN_OCTETS}

-- how much of what a stranger brought lies past its own share
abbrev pub common_of : ℕ → ℕ
common_of brought = brought - OWN_OCTETS

-- whether an answer to all that came has it counted no longer: only where nobody may bring more than its own share
abbrev pub settles : Quota → Bool → Bool
settles Own was_answered = was_answered
settles Common was_answered = false
settles (Within most) was_answered = false

-- how much is still counted of what a stranger brought, by what was noted of answers
abbrev pub left_of : Quota → Noted → ℕ → ℕ
left_of quota noted brought = if settles quota noted.was_answered then 0 else brought - noted.answered

-- whether a connection may have brought so much, whatever the others did
abbrev pub IsWithin : Quota → ℕ → Type 0
IsWithin Own brought = brought ≤ OWN_OCTETS
IsWithin (Within most) brought = brought ≤ most
IsWithin Common brought = Unit {0}
