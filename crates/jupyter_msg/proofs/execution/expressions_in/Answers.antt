use Rattle.std.proofs.Common.{sym, ◌∙◌}
use Rattle.jupyter_msg.proofs.TextsLemmas.{expressions_more}
use Rattle.jupyter_msg.proofs.execution.expressions_in.Goals as goal

pub loop-name-preserved : goal.loop-name-preserved
loop-name-preserved c =
    let more = c.in_ok-push_expression.ensures.more in
    rw more.1
    (sym (expressions_more c.loop-name.expressions.items more.0 c.in-Some.name.now c.in-Some.value.now c.loop-name.name-iterator c.next.new.self
    c.in-Some.ensures.steps (more.2 ∙ c.deref.ensures) more.3) ∙ c.loop-name.invariant)
