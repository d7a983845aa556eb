use Rattle.std.proofs.Common.{not, ◌&&◌, ◌||◌, sym, ap, ◌∙◌}
use Rattle.janus_syntax.specs.Tree.{name_view, exp_view, stm_view, block_view}
use Rattle.janus_syntax.proofs.Views.{view_if, view_loop, view_local_int, view_local_stack}
use Rattle.janus_check.specs.Naming.{is_it, in_exp, in_stm, in_block}
use Rattle.janus_check.proofs.Found.{two_found}
use Rattle.janus_check.proofs.naming.+stm_names.Goals as goal

pub stm_names-returns-in-If : goal.stm_names-returns-in-If
stm_names-returns-in-If t c =
    let x = c.args.name.now in
    let found = c.args.found in
    let first = in_exp x (exp_view c.in-If.test.value) in
    let one = in_block x (block_view c.in-If.then_part.items) in
    let other = in_block x (block_view c.in-If.else_part.items) in
    let past_first = c.exp_names-next-in-If.result in
    let past_one = c.block_names-next.result in
    let past_other = c.block_names-next-in-If.result in
    two_found found past_other c.exp_names-in-If.result (first || one || other) (in_exp x (exp_view c.in-If.last.value))
    (two_found found past_one past_other (first || one) other
    (two_found found past_first past_one first one (rw c.deref-in-If.ensures at c.exp_names-next-in-If.ensures)
    (c.block_names-next.ensures ∙ ap (λ b. past_first || in_block x (block_view b)) c.deref-in-If-2.ensures.value))
    (c.block_names-next-in-If.ensures ∙ ap (λ b. past_one || in_block x (block_view b)) c.deref-in-If-3.ensures.value))
    (rw c.deref-in-If-4.ensures at c.exp_names-in-If.ensures)
    ∙ ap (λ s. found || in_stm x s) (sym (view_if c.in-If.test c.in-If.last c.in-If.then_part c.in-If.else_part))
    ∙ ap (λ s. found || in_stm x (stm_view s)) (sym c.in-If.is)

pub stm_names-returns-in-Loop : goal.stm_names-returns-in-Loop
stm_names-returns-in-Loop t c =
    let x = c.args.name.now in
    let found = c.args.found in
    let first = in_exp x (exp_view c.in-Loop.entry.value) in
    let one = in_block x (block_view c.in-Loop.do_part.items) in
    let other = in_block x (block_view c.in-Loop.loop_part.items) in
    let past_first = c.exp_names-next-in-Loop.result in
    let past_one = c.block_names-next-in-Loop.result in
    let past_other = c.block_names-next-in-Loop-2.result in
    two_found found past_other c.exp_names-in-Loop.result (first || one || other) (in_exp x (exp_view c.in-Loop.exit.value))
    (two_found found past_one past_other (first || one) other
    (two_found found past_first past_one first one (rw c.deref-in-Loop.ensures at c.exp_names-next-in-Loop.ensures)
    (c.block_names-next-in-Loop.ensures ∙ ap (λ b. past_first || in_block x (block_view b)) c.deref-in-Loop-2.ensures.value))
    (c.block_names-next-in-Loop-2.ensures ∙ ap (λ b. past_one || in_block x (block_view b)) c.deref-in-Loop-3.ensures.value))
    (rw c.deref-in-Loop-4.ensures at c.exp_names-in-Loop.ensures)
    ∙ ap (λ s. found || in_stm x s) (sym (view_loop c.in-Loop.entry c.in-Loop.exit c.in-Loop.do_part c.in-Loop.loop_part))
    ∙ ap (λ s. found || in_stm x (stm_view s)) (sym c.in-Loop.is)

pub stm_names-returns-in-LocalInt : goal.stm_names-returns-in-LocalInt
stm_names-returns-in-LocalInt t c =
    let x = c.args.name.now in
    let found = c.args.found in
    let local = c.in-LocalInt.local in
    let begin = in_exp x (exp_view c.in-LocalInt.begin.value) in
    let own = not (is_it x (name_view local)) in
    let inside = own && in_block x (block_view c.in-LocalInt.body.items) in
    let past_begin = c.exp_names-next-in-LocalInt.result in
    let past_inside = c.is_inside-next.result in
    two_found found past_inside c.exp_names-in-LocalInt.result (begin || inside) (in_exp x (exp_view c.in-LocalInt.end.value))
    (two_found found past_begin past_inside begin inside (rw c.deref-in-LocalInt.ensures at c.exp_names-next-in-LocalInt.ensures)
    (c.is_inside-next.ensures
    ∙ ap (λ b. past_begin || (own && b)) (c.block_names-inside.ensures ∙ ap (λ b. in_block x (block_view b)) c.deref-in-LocalInt-2.ensures.value)))
    (rw c.deref-in-LocalInt-3.ensures at c.exp_names-in-LocalInt.ensures)
    ∙ ap (λ s. found || in_stm x s) (sym (view_local_int local c.in-LocalInt.field-3 c.in-LocalInt.begin c.in-LocalInt.end c.in-LocalInt.body))
    ∙ ap (λ s. found || in_stm x (stm_view s)) (sym c.in-LocalInt.is)

pub stm_names-returns-in-LocalStack : goal.stm_names-returns-in-LocalStack
stm_names-returns-in-LocalStack t c =
    let x = c.args.name.now in
    let found = c.args.found in
    let local = c.in-LocalStack.local in
    let own = not (is_it x (name_view local)) in
    c.is_inside.ensures
    ∙ ap (λ b. found || (own && b)) (c.block_names-inside-in-LocalStack.ensures ∙ ap (λ b. in_block x (block_view b)) c.deref-in-LocalStack.ensures.value)
    ∙ ap (λ s. found || in_stm x s) (sym (view_local_stack local c.in-LocalStack.field-2 c.in-LocalStack.body))
    ∙ ap (λ s. found || in_stm x (stm_view s)) (sym c.in-LocalStack.is)
