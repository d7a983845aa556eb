use Rattle.std.proofs.Common.{arith}
use Rattle.kernel_audit.proofs.Tickets.{rising}
use Rattle.kernel_audit.proofs.order.swapped_number.Goals as goal

pub returns-clause-none : goal.returns-clause-none
returns-clause-none c = rising c.args.tickets.now c.requires (λ k d l. let past = c.loop-i-test.false in c.loop-i.invariant k d (omega arith))
