-- How the audit's faults are told.
use Rattle.std.specs.Prelude.{ℕ, List, codes}
use Rattle.kernel_audit.specs.declared.fault.AuditFault.{AuditFault}
use Rattle.kernel_audit.specs.declared.fault.AuditFault.TheVariants.{PassMissing, TicketUnknown}

abbrev pub number_of : AuditFault → ℕ
number_of PassMissing = 78
number_of (TicketUnknown n) = 79

abbrev pub name_of : AuditFault → List ℕ
name_of PassMissing = codes "PassMissing"
name_of (TicketUnknown n) = codes "TicketUnknown"
