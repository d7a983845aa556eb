use Rattle.std.proofs.Common.{refl, ap, ◌∙◌, sym, subst, arith, Some}
use Rattle.janus_syntax.specs.Tree as tree
use Rattle.janus_syntax.specs.Tree.{name_view, exp_view, stm_view, block_view}
use Rattle.janus_syntax.proofs.Views.{view_if, view_loop, view_local_int, view_local_stack}
use Rattle.janus_places.specs.declared.part.Part.TheVariants as part
use Rattle.janus_places.specs.Spots.{Before, After, Enters, Leaves, inside, inner_spots, head_of, tail_of}
use Rattle.janus_places.specs.Table.{Adds}
use Rattle.janus_places.proofs.Rows.{both, still, next_statement, last_statement, behind_local, on_ok}
use Rattle.janus_places.proofs.block.+places.Goals as goal

pub add_block-loop-i-init : goal.add_block-loop-i-init
add_block-loop-i-init t c = (c.requires, omega arith, λ xs h. (h, λ end a. a))

pub add_block-loop-i-preserved : goal.add_block-loop-i-preserved
add_block-loop-i-preserved t c =
    let inv = c.loop-i.invariant in
    let added = c.in_ok-add_statement.ensures in (
      omega (arith, inv.0, added.within),
      omega (arith, inv.1, added.within),
      λ xs h.
          let k = inv.2 xs h in
          let new = added.adds xs k.0 in (
            still c.args.locals xs new k.0,
            λ end rest.
                next_statement c.args.block.now c.loop-i.i c.index-block-i.result xs c.args.table.now c.loop-i.table c.add_statement.new.table end
                c.loop-i-test.true
                c.index-block-i.is (k.1 end) new rest,
          ),
    )

pub add_block-returns-clause-within : goal.add_block-returns-clause-within
add_block-returns-clause-within t c = c.loop-i.invariant.1

pub add_block-returns-clause-adds : goal.add_block-returns-clause-adds
add_block-returns-clause-adds t c = λ xs h.
    last_statement c.args.block.now c.loop-i.i xs c.args.table.now c.loop-i.table (omega (arith, c.loop-i-test.false)) (c.loop-i.invariant.2 xs h).1

pub add_branch-returns-clause-adds : goal.add_branch-returns-clause-adds
add_branch-returns-clause-adds t c = λ xs s e f g h.
    let one = c.in_ok-add.ensures.adds (Enters xs s c.args.branch) (ap (λ k. part.Enters k c.args.branch) e) f h in
    let two = c.in_ok-add_block.ensures.adds (inside xs s) (still c.args.locals (inside xs s) one h) in
    let three = c.in_ok-add-2.ensures.adds (Leaves xs s c.args.branch) (ap (λ k. part.Leaves k c.args.branch) e) g
    (still c.args.locals (inside xs s) two (still c.args.locals (inside xs s) one h)) in
    both one (both two three)

pub add_inner-returns-in_ok-add_branch-in-If-clause-adds : goal.add_inner-returns-in_ok-add_branch-in-If-clause-adds
add_inner-returns-in_ok-add_branch-in-If-clause-adds t c =
    let x = c.in-If in
    let s = tree.If (exp_view x.test.value) (block_view x.then_part.items) (block_view x.else_part.items) (exp_view x.last.value) in
    on_ok c.add_branch-in-If.result (λ second xs h.
    let first = ap Some (rw c.deref.ensures at c.span_of.ensures) in
    let last = ap Some (rw c.deref-in-If.ensures at c.span_of-in-If.ensures) in
    let one = rw c.deref-in-If-2.ensures.value at (c.in_ok-add_branch-in-If.ensures.adds xs s refl first last h) in
    let two = rw c.deref-in-If-3.ensures.value at (second xs s refl first last (still c.args.locals xs one h)) in
    subst (λ k. Adds c.args.table.now c.add_branch-in-If.new.table (inner_spots xs k))
    (sym (ap stm_view x.is ∙ view_if x.test x.last x.then_part x.else_part)) (both one two)) c.add_branch-in-If.ensures.adds

pub add_inner-returns-in_ok-add_branch-in-Loop-clause-adds : goal.add_inner-returns-in_ok-add_branch-in-Loop-clause-adds
add_inner-returns-in_ok-add_branch-in-Loop-clause-adds t c =
    let x = c.in-Loop in
    let s = tree.Loop (exp_view x.entry.value) (block_view x.do_part.items) (block_view x.loop_part.items) (exp_view x.exit.value) in
    let entry = ap Some (rw c.deref-in-Loop.ensures at c.span_of-in-Loop.ensures) in
    let exit = ap Some (rw c.deref-in-Loop-2.ensures at c.span_of-in-Loop-2.ensures) in
    on_ok c.add_branch-in-Loop-2.result (λ second xs h.
    let one = rw c.deref-in-Loop-3.ensures.value at (c.in_ok-add_branch-in-Loop.ensures.adds xs s refl entry exit h) in
    let two = rw c.deref-in-Loop-4.ensures.value at (second xs s refl exit entry (still c.args.locals xs one h)) in
    subst (λ k. Adds c.args.table.now c.add_branch-in-Loop-2.new.table (inner_spots xs k))
    (sym (ap stm_view x.is ∙ view_loop x.entry x.exit x.do_part x.loop_part)) (both one two)) c.add_branch-in-Loop-2.ensures.adds

pub add_inner-returns-in_ok-inner-in-LocalInt-clause-adds : goal.add_inner-returns-in_ok-inner-in-LocalInt-clause-adds
add_inner-returns-in_ok-inner-in-LocalInt-clause-adds t c =
    let x = c.in-LocalInt in
    let s = tree.LocalInt (name_view x.name) (exp_view x.field-1.value) (block_view x.body.items) (name_view x.field-3) (exp_view x.field-4.value) in
    let same = ap stm_view x.is ∙ view_local_int x.name x.field-3 x.field-1 x.field-4 x.body in
    let opened = c.in_ok-inner-in-LocalInt.ensures in
    on_ok c.add_branch-in-LocalInt.result (λ added xs h.
    let one = rw c.deref-in-LocalInt.ensures.value at
    (added xs s refl (c.head_of-head.ensures ∙ ap head_of same) (c.tail_of-tail.ensures ∙ ap tail_of same) (opened.local xs h)) in
    subst (λ k. Adds c.args.table.now c.add_branch-in-LocalInt.new.table (inner_spots xs k)) (sym same)
    (behind_local _ _ _ _ opened.opens opened.rows one)) c.add_branch-in-LocalInt.ensures.adds

pub add_inner-returns-in_ok-inner-in-LocalStack-clause-adds : goal.add_inner-returns-in_ok-inner-in-LocalStack-clause-adds
add_inner-returns-in_ok-inner-in-LocalStack-clause-adds t c =
    let x = c.in-LocalStack in
    let s = tree.LocalStack (name_view x.name) (block_view x.body.items) (name_view x.field-2) in
    let same = ap stm_view x.is ∙ view_local_stack x.name x.field-2 x.body in
    let opened = c.in_ok-inner-in-LocalStack.ensures in
    on_ok c.add_branch-in-LocalStack.result (λ added xs h.
    let one = rw c.deref-in-LocalStack.ensures.value at
    (added xs s refl (c.head_of-head-in-LocalStack.ensures ∙ ap head_of same) (c.tail_of-tail-in-LocalStack.ensures ∙ ap tail_of same) (opened.local xs h)) in
    subst (λ k. Adds c.args.table.now c.add_branch-in-LocalStack.new.table (inner_spots xs k)) (sym same)
    (behind_local _ _ _ _ opened.opens opened.rows one)) c.add_branch-in-LocalStack.ensures.adds

pub add_statement-returns-clause-adds : goal.add_statement-returns-clause-adds
add_statement-returns-clause-adds t c = λ xs h.
    let s = stm_view c.args.statement.now in
    let one = c.in_ok-add.ensures.adds (Before xs s) (ap (λ k. part.Before k) c.form_of-form.ensures) c.head_of.ensures h in
    let two = c.in_ok-add_inner.ensures.adds xs (still c.args.locals xs one h) in
    let three = c.in_ok-add-2.ensures.adds (After xs s) (ap (λ k. part.After k) c.form_of-form.ensures) c.tail_of.ensures
    (still c.args.locals xs two (still c.args.locals xs one h)) in
    both one (both two three)
