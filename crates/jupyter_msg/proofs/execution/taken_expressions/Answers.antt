use Rattle.std.proofs.Common.{sym, ◌∙◌}
use Rattle.jupyter_msg.proofs.TextsLemmas.{expressions_more}
use Rattle.jupyter_msg.proofs.execution.taken_expressions.Goals as goal

pub loop-name-preserved : goal.loop-name-preserved
loop-name-preserved c =
    let more = c.in_ok-push_taken.ensures.more in
    let next =
    expressions_more c.loop-name.expressions.items more.0 c.in-Some.name c.in-Some.value c.loop-name.name-iterator c.next.new.self c.in-Some.ensures.steps
    more.2 more.3 in
    rw more.1 (sym next ∙ c.loop-name.invariant)
