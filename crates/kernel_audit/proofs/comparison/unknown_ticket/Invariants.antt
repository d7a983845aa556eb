use Rattle.std.proofs.Common.{All, take, map}
use Rattle.kernel_ask.specs.Written.{entry_of}
use Rattle.kernel_audit.specs.declared.mark.Kind.TheVariants.{Post}
use Rattle.kernel_audit.specs.Audit.{IsPosted}
use Rattle.kernel_audit.specs.Marks.{IsMark}
use Rattle.kernel_audit.proofs.comparison.unknown_ticket.Given as goal

abbrev pub invariant-loop-ticket : goal.invariant-loop-ticket
invariant-loop-ticket l = record {
  mark : IsMark Post l.minutes l.mark;
  posted : All (IsPosted (map entry_of l.minutes)) (take l.ticket-index l.tickets);
}
