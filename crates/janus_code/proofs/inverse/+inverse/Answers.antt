use Rattle.std.proofs.Common.{ap, ◌∙◌, sym, arith}
use Rattle.janus_syntax.specs.Tree.{stm_view, block_view, Empty}
use Rattle.janus_code.specs.Cells.{inverse_stm, turned}
use Rattle.janus_code.proofs.Cells.{one_more, if_turned, loop_turned, local_int_turned, local_stack_turned}
use Rattle.janus_code.proofs.Flattened.{if_ok}
use Rattle.janus_code.proofs.inverse.+inverse.Goals as goal

pub inverse_statement-returns-in_ok-else_part-in-If : goal.inverse_statement-returns-in_ok-else_part-in-If
inverse_statement-returns-in_ok-else_part-in-If t c =
    if_ok c.if_of.result (λ inverse h.
    (rw (c.deref-in-If-3.ensures, c.deref-in-If-4.ensures) at h) ∙ if_turned c.in-If.test c.in-If.last c.in-If.then_part c.in-If.else_part c.in_ok-then_part-in-If.then_part c.in_ok-else_part-in-If.else_part
    (c.in_ok-then_part-in-If.ensures ∙ ap (λ b. turned (block_view b) Empty) c.deref-in-If.ensures.value)
    (c.in_ok-else_part-in-If.ensures ∙ ap (λ b. turned (block_view b) Empty) c.deref-in-If-2.ensures.value)
    ∙ ap (λ s. inverse_stm (stm_view s)) (sym c.in-If.is)) c.if_of.ensures

pub inverse_statement-returns-in_ok-loop_part-in-Loop : goal.inverse_statement-returns-in_ok-loop_part-in-Loop
inverse_statement-returns-in_ok-loop_part-in-Loop t c =
    if_ok c.loop_of.result (λ inverse h.
    (rw (c.deref-in-Loop-3.ensures, c.deref-in-Loop-4.ensures) at h) ∙ loop_turned c.in-Loop.entry c.in-Loop.exit c.in-Loop.do_part c.in-Loop.loop_part c.in_ok-do_part-in-Loop.do_part c.in_ok-loop_part-in-Loop.loop_part
    (c.in_ok-do_part-in-Loop.ensures ∙ ap (λ b. turned (block_view b) Empty) c.deref-in-Loop.ensures.value)
    (c.in_ok-loop_part-in-Loop.ensures ∙ ap (λ b. turned (block_view b) Empty) c.deref-in-Loop-2.ensures.value)
    ∙ ap (λ s. inverse_stm (stm_view s)) (sym c.in-Loop.is)) c.loop_of.ensures

pub inverse_statements-loop-i-preserved : goal.inverse_statements-loop-i-preserved
inverse_statements-loop-i-preserved t c =
    one_more c.args.statements.now c.loop-i.inverses.items c.push.new.self.items c.loop-i.i c.in_ok-inverse_statement.field-0 c.index-statements-i.result
    (omega arith) (omega arith) c.loop-i.invariant (c.in_ok-inverse_statement.ensures ∙ ap (λ s. inverse_stm (stm_view s)) c.index-statements-i.is)
    c.in_ok-push.ensures.items

pub inverse_statement-returns-in_ok-block-in-LocalInt : goal.inverse_statement-returns-in_ok-block-in-LocalInt
inverse_statement-returns-in_ok-block-in-LocalInt t c =
    if_ok c.int_of.result (λ inverse h.
    (rw (c.deref-in-LocalInt-2.ensures, c.deref-in-LocalInt-3.ensures) at h) ∙ local_int_turned c.in-LocalInt.name c.in-LocalInt.end c.in-LocalInt.first c.in-LocalInt.last c.in-LocalInt.block c.in_ok-block-in-LocalInt.block
    (c.in_ok-block-in-LocalInt.ensures ∙ ap (λ b. turned (block_view b) Empty) c.deref-in-LocalInt.ensures.value)
    ∙ ap (λ s. inverse_stm (stm_view s)) (sym c.in-LocalInt.is)) c.int_of.ensures

pub inverse_statement-returns-in_ok-block-in-LocalStack : goal.inverse_statement-returns-in_ok-block-in-LocalStack
inverse_statement-returns-in_ok-block-in-LocalStack t c =
    if_ok c.stack_of.result (λ inverse h.
    h ∙ local_stack_turned c.in-LocalStack.name c.in-LocalStack.end c.in-LocalStack.block c.in_ok-block-in-LocalStack.block
    (c.in_ok-block-in-LocalStack.ensures ∙ ap (λ b. turned (block_view b) Empty) c.deref-in-LocalStack.ensures.value)
    ∙ ap (λ s. inverse_stm (stm_view s)) (sym c.in-LocalStack.is)) c.stack_of.ensures
