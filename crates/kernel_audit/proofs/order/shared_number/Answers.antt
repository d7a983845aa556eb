use Rattle.std.proofs.Common.{◌-◌, arith}
use Rattle.kernel_audit.proofs.Orders.{one_each}
use Rattle.kernel_audit.proofs.Tickets.{shared_at}
use Rattle.kernel_audit.proofs.order.shared_number.Goals as goal

pub returns-then-tickets-i-clause-some : goal.returns-then-tickets-i-clause-some
returns-then-tickets-i-clause-some c =
    let low = c.loop-i.auto.i in
    shared_at c.args.tickets.now (c.loop-i.i - 1) c.loop-i.i c.index-tickets-i.result c.index-tickets-i-in-loop-i.result c.index-tickets-i-then-tickets-i.result
    (omega arith)
    c.loop-i-test.true c.if-tickets-i.true

pub returns-clause-none : goal.returns-clause-none
returns-clause-none c = one_each (λ t. t.number) c.args.tickets.now (λ k d l. let past = c.loop-i-test.false in c.loop-i.invariant k d (omega arith))
