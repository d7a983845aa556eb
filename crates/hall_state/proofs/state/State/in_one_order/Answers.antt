use Rattle.std.proofs.Common.{ap, sym, ◌∙◌}
use Rattle.kernel_audit.proofs.Fronts.{in_one_order, one_numbering}
use Rattle.hall_state.proofs.state.State.in_one_order.Goals as goal

-- both see the same in the end
pub returns-clause-order : goal.returns-clause-order
returns-clause-order g c =
    in_one_order c.args.a.now c.see.new.pass c.args.b.now c.see-2.new.pass c.see.ensures.seen c.see-2.ensures.seen
    (c.see-2.ensures.front ∙ ap (λ k. k.machine.minutes) c.see.ensures.kernel ∙ sym c.see.ensures.front)
    (c.see-2.ensures.notes ∙ c.see.ensures.same_notes ∙ sym c.see.ensures.notes)

pub returns-clause-numbers : goal.returns-clause-numbers
returns-clause-numbers g c =
    one_numbering c.args.a.now c.args.b.now
    (in_one_order c.args.a.now c.see.new.pass c.args.b.now c.see-2.new.pass c.see.ensures.seen c.see-2.ensures.seen
    (c.see-2.ensures.front ∙ ap (λ k. k.machine.minutes) c.see.ensures.kernel ∙ sym c.see.ensures.front)
    (c.see-2.ensures.notes ∙ c.see.ensures.same_notes ∙ sym c.see.ensures.notes))
