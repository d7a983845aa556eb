use Rattle.std.proofs.Common.{refl, ap, ◌∙◌, sym}
use Rattle.janus_syntax.specs.Tree.{exp_view, stm_view, block_view}
use Rattle.janus_sameness.proofs.Statements.{same_if, same_loop, same_int, same_stack}
use Rattle.janus_sameness.proofs.statement.+sameness.Goals as goal

pub is_same_statement-returns-else-not-are_same-2 : goal.is_same_statement-returns-else-not-are_same-2
is_same_statement-returns-else-not-are_same-2 t c = λ yes.
    let x = c.in-If-If in
    ap stm_view x.is-0
    ∙ same_if x.a x.d x.e x.h x.b x.c x.f x.g
    (sym (ap exp_view c.deref-in-If-If-5.ensures) ∙ c.are_same_tests.ensures.front yes ∙ ap exp_view c.deref-in-If-If-6.ensures)
    (sym (ap exp_view c.deref-in-If-If-7.ensures) ∙ c.are_same_tests.ensures.behind yes ∙ ap exp_view c.deref-in-If-If-8.ensures)
    (sym (ap block_view c.deref-in-If-If.ensures.value) ∙ c.if-not-are_same.ensures refl ∙ ap block_view c.deref-in-If-If-2.ensures.value)
    (sym (ap block_view c.deref-in-If-If-3.ensures.value) ∙ c.if-not-are_same-2.ensures refl ∙ ap block_view c.deref-in-If-If-4.ensures.value)
    ∙ sym (ap stm_view x.is-1)

pub is_same_statement-returns-else-not-are_same-4 : goal.is_same_statement-returns-else-not-are_same-4
is_same_statement-returns-else-not-are_same-4 t c = λ yes.
    let x = c.in-Loop-Loop in
    ap stm_view x.is-0
    ∙ same_loop x.a x.d x.e x.h x.b x.c x.f x.g
    (sym (ap exp_view c.deref-in-Loop-Loop-5.ensures) ∙ c.are_same_tests-in-Loop-Loop.ensures.front yes ∙ ap exp_view c.deref-in-Loop-Loop-6.ensures)
    (sym (ap exp_view c.deref-in-Loop-Loop-7.ensures) ∙ c.are_same_tests-in-Loop-Loop.ensures.behind yes ∙ ap exp_view c.deref-in-Loop-Loop-8.ensures)
    (sym (ap block_view c.deref-in-Loop-Loop.ensures.value) ∙ c.if-not-are_same-3.ensures refl ∙ ap block_view c.deref-in-Loop-Loop-2.ensures.value)
    (sym (ap block_view c.deref-in-Loop-Loop-3.ensures.value) ∙ c.if-not-are_same-4.ensures refl ∙ ap block_view c.deref-in-Loop-Loop-4.ensures.value)
    ∙ sym (ap stm_view x.is-1)

pub is_same_statement-returns-else-not-are_same_ends : goal.is_same_statement-returns-else-not-are_same_ends
is_same_statement-returns-else-not-are_same_ends t c = λ yes.
    let x = c.in-LocalInt-LocalInt in
    let tests = c.are_same_tests-in-LocalInt-LocalInt.ensures in
    ap stm_view x.is-0
    ∙ same_int x.x x.y x.z x.w x.b x.e (c.if-not-are_same_ends.ensures.front refl) (c.if-not-are_same_ends.ensures.behind refl)
    (sym (ap block_view c.deref-in-LocalInt-LocalInt.ensures.value) ∙ c.if-not-are_same-5.ensures refl
    ∙ ap block_view c.deref-in-LocalInt-LocalInt-2.ensures.value)
    x.a x.c x.d x.f
    (sym (ap exp_view c.deref-in-LocalInt-LocalInt-3.ensures) ∙ tests.front yes ∙ ap exp_view c.deref-in-LocalInt-LocalInt-4.ensures)
    (sym (ap exp_view c.deref-in-LocalInt-LocalInt-5.ensures) ∙ tests.behind yes ∙ ap exp_view c.deref-in-LocalInt-LocalInt-6.ensures)
    ∙ sym (ap stm_view x.is-1)

pub is_same_statement-returns-else-not-are_same-6 : goal.is_same_statement-returns-else-not-are_same-6
is_same_statement-returns-else-not-are_same-6 t c = λ yes.
    let x = c.in-LocalStack-LocalStack in
    let ends = c.are_same_ends-in-LocalStack-LocalStack.ensures in
    ap stm_view x.is-0
    ∙ same_stack x.x x.y x.z x.w x.b x.e (ends.front yes) (ends.behind yes)
    (sym (ap block_view c.deref-in-LocalStack-LocalStack.ensures.value) ∙ c.if-not-are_same-6.ensures refl
    ∙ ap block_view c.deref-in-LocalStack-LocalStack-2.ensures.value)
    ∙ sym (ap stm_view x.is-1)
