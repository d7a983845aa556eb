use Rattle.std.proofs.Common.{ap, ◌∙◌, sym}
use Rattle.janus_syntax.specs.Tree.{stm_view, block_view}
use Rattle.janus_code.specs.Closed.{closed_stm, closed_block}
use Rattle.janus_code.proofs.ClosedLemmas.{one_more, if_closed, loop_closed, local_int_closed, local_stack_closed}
use Rattle.janus_code.proofs.Flattened.{if_ok}
use Rattle.janus_code.proofs.closed.+closing.Goals as goal

pub closed_statement-returns-in_ok-else_part-in-If : goal.closed_statement-returns-in_ok-else_part-in-If
closed_statement-returns-in_ok-else_part-in-If t c =
    if_ok c.if_of.result (λ copy h.
    (rw (c.deref-in-If-3.ensures, c.deref-in-If-4.ensures) at h) ∙ if_closed c.in-If.test c.in-If.last c.in-If.then_part c.in-If.else_part c.in_ok-then_part-in-If.then_part c.in_ok-else_part-in-If.else_part
    (c.in_ok-then_part-in-If.ensures ∙ ap (λ b. closed_block (block_view b)) c.deref-in-If.ensures.value)
    (c.in_ok-else_part-in-If.ensures ∙ ap (λ b. closed_block (block_view b)) c.deref-in-If-2.ensures.value)
    ∙ ap (λ s. closed_stm (stm_view s)) (sym c.in-If.is)) c.if_of.ensures

pub closed_statement-returns-in_ok-loop_part-in-Loop : goal.closed_statement-returns-in_ok-loop_part-in-Loop
closed_statement-returns-in_ok-loop_part-in-Loop t c =
    if_ok c.loop_of.result (λ copy h.
    (rw (c.deref-in-Loop-3.ensures, c.deref-in-Loop-4.ensures) at h) ∙ loop_closed c.in-Loop.entry c.in-Loop.exit c.in-Loop.do_part c.in-Loop.loop_part c.in_ok-do_part-in-Loop.do_part c.in_ok-loop_part-in-Loop.loop_part
    (c.in_ok-do_part-in-Loop.ensures ∙ ap (λ b. closed_block (block_view b)) c.deref-in-Loop.ensures.value)
    (c.in_ok-loop_part-in-Loop.ensures ∙ ap (λ b. closed_block (block_view b)) c.deref-in-Loop-2.ensures.value)
    ∙ ap (λ s. closed_stm (stm_view s)) (sym c.in-Loop.is)) c.loop_of.ensures

pub closed_statements-loop-i-preserved : goal.closed_statements-loop-i-preserved
closed_statements-loop-i-preserved t c =
    one_more c.args.statements.now c.loop-i.copies.items c.push.new.self.items c.loop-i.i c.in_ok-closed_statement.field-0 c.index-statements-i.result
    c.loop-i-test.true c.loop-i.invariant (c.in_ok-closed_statement.ensures ∙ ap (λ s. closed_stm (stm_view s)) c.index-statements-i.is)
    c.in_ok-push.ensures.items

pub closed_statement-returns-in_ok-block-in-LocalInt : goal.closed_statement-returns-in_ok-block-in-LocalInt
closed_statement-returns-in_ok-block-in-LocalInt t c =
    if_ok c.int_of.result (λ copy h.
    (rw (c.deref-in-LocalInt-2.ensures, c.deref-in-LocalInt-3.ensures) at h) ∙ local_int_closed c.in-LocalInt.name c.in-LocalInt.field-3 c.in-LocalInt.first c.in-LocalInt.last c.in-LocalInt.block c.in_ok-block-in-LocalInt.block
    (c.in_ok-block-in-LocalInt.ensures ∙ ap (λ b. closed_block (block_view b)) c.deref-in-LocalInt.ensures.value)
    ∙ ap (λ s. closed_stm (stm_view s)) (sym c.in-LocalInt.is)) c.int_of.ensures

pub closed_statement-returns-in_ok-block-in-LocalStack : goal.closed_statement-returns-in_ok-block-in-LocalStack
closed_statement-returns-in_ok-block-in-LocalStack t c =
    if_ok c.stack_of.result (λ copy h.
    h ∙ local_stack_closed c.in-LocalStack.name c.in-LocalStack.field-2 c.in-LocalStack.block c.in_ok-block-in-LocalStack.block
    (c.in_ok-block-in-LocalStack.ensures ∙ ap (λ b. closed_block (block_view b)) c.deref-in-LocalStack.ensures.value)
    ∙ ap (λ s. closed_stm (stm_view s)) (sym c.in-LocalStack.is)) c.stack_of.ensures
