use Rattle.std.proofs.Common.{refl, arith, sym, subst}
use Rattle.janus_syntax.specs.Tree.{stm_view, block_view}
use Rattle.janus_syntax.specs.Printed.{Adds}
use Rattle.janus_syntax.specs.Printing.{block_pieces, stm_pieces}
use Rattle.janus_syntax.proofs.Views.{view_if, view_loop, view_local_int, view_local_stack}
use Rattle.janus_syntax.proofs.Pieces.{both, next_item, last_item}
use Rattle.janus_syntax.proofs.printer.+put_stm.Goals as goal

pub put_stm-returns-in-AssignElement : goal.put_stm-returns-in-AssignElement
put_stm-returns-in-AssignElement t c =
    rw c.in-AssignElement.is
    (both c.put_name-in-AssignElement.ensures
    (both c.put_sign-in-AssignElement.ensures
    (both (rw c.deref-in-AssignElement.ensures at c.put_whole-in-AssignElement.ensures)
    (both c.put_sign-in-AssignElement-2.ensures
    (both (rw c.sign_of_update-in-AssignElement.ensures at c.put_sign-in-AssignElement-3.ensures)
    (rw c.deref-in-AssignElement-2.ensures at c.put_whole-in-AssignElement-2.ensures))))))

pub put_stm-returns-in-If : goal.put_stm-returns-in-If
put_stm-returns-in-If t c =
    let x = c.in-If in
    rw x.is
    (subst (λ s. Adds c.args.line.now c.put_test-in-If.new.line (stm_pieces s)) (sym (view_if x.test x.assertion x.then_part x.else_part))
    (both (rw c.deref-in-If.ensures at c.put_test.ensures)
    (both (rw c.deref-in-If-2.ensures.value at c.put_part.ensures)
    (both (rw c.deref-in-If-3.ensures.value at c.put_part-in-If.ensures) (rw c.deref-in-If-4.ensures at c.put_test-in-If.ensures)))))

pub put_stm-returns-in-Loop : goal.put_stm-returns-in-Loop
put_stm-returns-in-Loop t c =
    let x = c.in-Loop in
    rw x.is
    (subst (λ s. Adds c.args.line.now c.put_test-in-Loop-2.new.line (stm_pieces s)) (sym (view_loop x.assertion x.test x.do_part x.loop_part))
    (both (rw c.deref-in-Loop.ensures at c.put_test-in-Loop.ensures)
    (both (rw c.deref-in-Loop-2.ensures.value at c.put_part-in-Loop.ensures)
    (both (rw c.deref-in-Loop-3.ensures.value at c.put_part-in-Loop-2.ensures)
    (rw c.deref-in-Loop-4.ensures at c.put_test-in-Loop-2.ensures)))))

pub put_stm-returns-in-LocalInt : goal.put_stm-returns-in-LocalInt
put_stm-returns-in-LocalInt t c =
    let x = c.in-LocalInt in
    rw x.is
    (subst (λ s. Adds c.args.line.now c.put_whole-in-LocalInt-2.new.line (stm_pieces s)) (sym (view_local_int x.name x.again x.exp x.test x.body))
    (both c.put_binding.ensures
    (both (rw c.deref-in-LocalInt.ensures at c.put_whole-in-LocalInt.ensures)
    (both (rw c.deref-in-LocalInt-2.ensures.value at c.put_block.ensures)
    (both c.put_binding-in-LocalInt.ensures (rw c.deref-in-LocalInt-3.ensures at c.put_whole-in-LocalInt-2.ensures))))))

pub put_stm-returns-in-LocalStack : goal.put_stm-returns-in-LocalStack
put_stm-returns-in-LocalStack t c =
    let x = c.in-LocalStack in
    rw x.is
    (subst (λ s. Adds c.args.line.now c.put_keyword-in-LocalStack-2.new.line (stm_pieces s)) (sym (view_local_stack x.name x.again x.body))
    (both c.put_binding-in-LocalStack.ensures
    (both c.put_keyword-in-LocalStack.ensures
    (both (rw c.deref-in-LocalStack.ensures.value at c.put_block-in-LocalStack.ensures)
    (both c.put_binding-in-LocalStack-2.ensures c.put_keyword-in-LocalStack-2.ensures)))))

pub put_block-loop-i-preserved : goal.put_block-loop-i-preserved
put_block-loop-i-preserved t c =
    let x = c.index-block-i.result in
    next_item (λ xs. block_pieces (block_view xs)) c.args.block.now c.loop-i.i x (stm_pieces (stm_view x)) c.args.line.now _ _ c.loop-i-test.true
    c.index-block-i.is (λ ys. refl) c.loop-i.invariant c.put_stm.ensures

pub put_block-returns : goal.put_block-returns
put_block-returns t c = last_item (λ xs. block_pieces (block_view xs)) c.args.block.now c.loop-i.i c.args.line.now _ (omega (arith, c.loop-i-test.false))
    refl c.loop-i.invariant
