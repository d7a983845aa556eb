use Rattle.std.proofs.Common.{arith, suc, ◌∷◌, ◌++◌, sym, ap, ◌∙◌, drop, add-one}
use Rattle.std.proofs.Math.Seq.{drop-cons}
use Rattle.janus_meaning.specs.Syntax.{ANumber, AnArray, AStack}
use Rattle.janus_syntax.specs.Tree.{name_view, exp_view, stm_view, block_view}
use Rattle.janus_syntax.specs.View.{name_of, block_of}
use Rattle.janus_syntax.proofs.Views.{view_if, view_loop, view_local_int, view_local_stack}
use Rattle.janus_check.specs.Fault.{first_from}
use Rattle.janus_check.specs.Check.{use_faults, side_faults, exp_faults, end_faults, shadow_faults, stm_faults, block_faults}
use Rattle.janus_check.specs.Sight.{in_sight, heads_seen}
use Rattle.janus_check.proofs.Weights.{block_weight, one_lighter, if_lighter, loop_lighter, local_int_lighter, local_stack_lighter}
use Rattle.janus_check.proofs.FirstLemmas.{first_from-append, two_parts, four_parts}
use Rattle.janus_check.proofs.statement.+stm_fault.Goals as goal

pub block_fault-loop-i-preserved : goal.block_fault-loop-i-preserved
block_fault-loop-i-preserved g t c =
    let g = in_sight c.args.sight.now in
    let hs = heads_seen c.args.sight.now in
    let xs = c.args.statements.now in
    let x = c.index-statements-i.result in
    let i = c.loop-i.i in
    let rest = block_faults hs g (block_view (drop (suc i) xs)) in
    ap (λ n. first_from c.stm_fault-next.result (block_faults hs g (block_view (drop n xs)))) (add-one i)
    ∙ ap (λ f. first_from f rest) c.stm_fault-next.ensures
    ∙ sym (first_from-append c.loop-i.next (stm_faults hs g (stm_view x)) rest)
    ∙ ap (λ y. first_from c.loop-i.next (block_faults hs g (block_view (y ∷ drop (suc i) xs)))) c.index-statements-i.is
    ∙ ap (λ ys. first_from c.loop-i.next (block_faults hs g (block_view ys))) (sym (drop-cons xs i x c.loop-i-test.true))
    ∙ c.loop-i.invariant

pub stm_fault-returns-in-AssignElement : goal.stm_fault-returns-in-AssignElement
stm_fault-returns-in-AssignElement g t c =
    let g = in_sight c.args.sight.now in
    let hs = heads_seen c.args.sight.now in
    let a = name_of c.in-AssignElement.name in
    let uses = use_faults g AnArray (name_view c.in-AssignElement.name) in
    let index = side_faults g a (exp_view c.in-AssignElement.index.value) in
    two_parts c.args.first c.exp_fault-next.result c.exp_fault-in-AssignElement.result (uses ++ index) (side_faults g a (exp_view c.in-AssignElement.exp.value))
    (two_parts c.args.first c.use_fault-next-in-AssignElement.result c.exp_fault-next.result uses index c.use_fault-next-in-AssignElement.ensures
    (rw c.deref-in-AssignElement.ensures at c.exp_fault-next.ensures))
    (rw c.deref-in-AssignElement-2.ensures at c.exp_fault-in-AssignElement.ensures)
    ∙ ap (λ s. first_from c.args.first (stm_faults hs g (stm_view s))) (sym c.in-AssignElement.is)

pub stm_fault-returns-in-If : goal.stm_fault-returns-in-If
stm_fault-returns-in-If g t c =
    let g = in_sight c.args.sight.now in
    let hs = heads_seen c.args.sight.now in
    let first = exp_faults g (exp_view c.in-If.test.value) in
    let one = block_faults hs g (block_view c.in-If.then_part.items) in
    let other = block_faults hs g (block_view c.in-If.else_part.items) in
    let past_first = c.exp_fault-next-in-If.result in
    let past_one = c.block_fault-next.result in
    four_parts c.args.first past_first past_one c.block_fault-next-in-If.result c.exp_fault-in-If.result first one other (exp_faults g (exp_view c.in-If.last.value))
    (rw c.deref-in-If.ensures at c.exp_fault-next-in-If.ensures)
    (c.block_fault-next.ensures ∙ ap (λ b. first_from past_first (block_faults hs g (block_view b))) c.deref-in-If-2.ensures.value)
    (c.block_fault-next-in-If.ensures ∙ ap (λ b. first_from past_one (block_faults hs g (block_view b))) c.deref-in-If-3.ensures.value)
    (rw c.deref-in-If-4.ensures at c.exp_fault-in-If.ensures)
    ∙ ap (λ s. first_from c.args.first (stm_faults hs g s)) (sym (view_if c.in-If.test c.in-If.last c.in-If.then_part c.in-If.else_part))
    ∙ ap (λ s. first_from c.args.first (stm_faults hs g (stm_view s))) (sym c.in-If.is)

pub stm_fault-returns-in-Loop : goal.stm_fault-returns-in-Loop
stm_fault-returns-in-Loop g t c =
    let g = in_sight c.args.sight.now in
    let hs = heads_seen c.args.sight.now in
    let first = exp_faults g (exp_view c.in-Loop.entry.value) in
    let one = block_faults hs g (block_view c.in-Loop.do_part.items) in
    let other = block_faults hs g (block_view c.in-Loop.loop_part.items) in
    let past_first = c.exp_fault-next-in-Loop.result in
    let past_one = c.block_fault-next-in-Loop.result in
    four_parts c.args.first past_first past_one c.block_fault-next-in-Loop-2.result c.exp_fault-in-Loop.result first one other
    (exp_faults g (exp_view c.in-Loop.exit.value))
    (rw c.deref-in-Loop.ensures at c.exp_fault-next-in-Loop.ensures)
    (c.block_fault-next-in-Loop.ensures ∙ ap (λ b. first_from past_first (block_faults hs g (block_view b))) c.deref-in-Loop-2.ensures.value)
    (c.block_fault-next-in-Loop-2.ensures ∙ ap (λ b. first_from past_one (block_faults hs g (block_view b))) c.deref-in-Loop-3.ensures.value)
    (rw c.deref-in-Loop-4.ensures at c.exp_fault-in-Loop.ensures)
    ∙ ap (λ s. first_from c.args.first (stm_faults hs g s)) (sym (view_loop c.in-Loop.entry c.in-Loop.exit c.in-Loop.do_part c.in-Loop.loop_part))
    ∙ ap (λ s. first_from c.args.first (stm_faults hs g (stm_view s))) (sym c.in-Loop.is)

pub stm_fault-returns-in-LocalInt : goal.stm_fault-returns-in-LocalInt
stm_fault-returns-in-LocalInt g t c =
    let g = in_sight c.args.sight.now in
    let hs = heads_seen c.args.sight.now in
    let x = name_of c.in-LocalInt.name in
    let inner = (x, ANumber) ∷ g in
    let past_begin = c.exp_fault-next-in-LocalInt.result in
    four_parts c.args.first c.shadow_fault-next.result past_begin c.block_fault-next-in-LocalInt.result c.exp_fault-in-LocalInt.result
    (shadow_faults g (name_view c.in-LocalInt.name)) (end_faults g x (exp_view c.in-LocalInt.begin.value))
    (block_faults hs inner (block_view c.in-LocalInt.body.items)) (end_faults g x (exp_view c.in-LocalInt.end.value))
    c.shadow_fault-next.ensures (rw c.deref-in-LocalInt.ensures at c.exp_fault-next-in-LocalInt.ensures)
    (c.block_fault-next-in-LocalInt.ensures
    ∙ (λ i. first_from past_begin (block_faults (c.local.ensures.heads i) (c.local.ensures.names i) (block_view c.deref-in-LocalInt-2.result.now)))
    ∙ ap (λ b. first_from past_begin (block_faults hs inner (block_view b))) c.deref-in-LocalInt-2.ensures.value)
    (rw c.deref-in-LocalInt-3.ensures at c.exp_fault-in-LocalInt.ensures)
    ∙ ap (λ s. first_from c.args.first (stm_faults hs g s))
    (sym (view_local_int c.in-LocalInt.name c.in-LocalInt.field-3 c.in-LocalInt.begin c.in-LocalInt.end c.in-LocalInt.body))
    ∙ ap (λ s. first_from c.args.first (stm_faults hs g (stm_view s))) (sym c.in-LocalInt.is)

pub stm_fault-returns-in-LocalStack : goal.stm_fault-returns-in-LocalStack
stm_fault-returns-in-LocalStack g t c =
    let g = in_sight c.args.sight.now in
    let hs = heads_seen c.args.sight.now in
    let inner = (name_of c.in-LocalStack.name, AStack) ∷ g in
    let past_name = c.shadow_fault-next-in-LocalStack.result in
    two_parts c.args.first past_name c.block_fault.result (shadow_faults g (name_view c.in-LocalStack.name))
    (block_faults hs inner (block_view c.in-LocalStack.body.items)) c.shadow_fault-next-in-LocalStack.ensures
    (c.block_fault.ensures
    ∙ (λ i. first_from past_name (block_faults (c.local-in-LocalStack.ensures.heads i) (c.local-in-LocalStack.ensures.names i)
    (block_view c.deref-in-LocalStack.result.now)))
    ∙ ap (λ b. first_from past_name (block_faults hs inner (block_view b))) c.deref-in-LocalStack.ensures.value)
    ∙ ap (λ s. first_from c.args.first (stm_faults hs g s)) (sym (view_local_stack c.in-LocalStack.name c.in-LocalStack.field-2 c.in-LocalStack.body))
    ∙ ap (λ s. first_from c.args.first (stm_faults hs g (stm_view s))) (sym c.in-LocalStack.is)

pub block_fault-stm_fault-next-requires : goal.block_fault-stm_fault-next-requires
block_fault-stm_fault-next-requires g t c κs within =
    (omega (arith, c.decreases, one_lighter c.args.statements.now c.loop-i.i c.index-statements-i.result c.loop-i-test.true (sym c.index-statements-i.is)), within)

pub stm_fault-block_fault-next-requires : goal.stm_fault-block_fault-next-requires
stm_fault-block_fault-next-requires g t c κs within =
    let lighter = if_lighter c.args.stm.now c.in-If.test c.in-If.last c.in-If.then_part c.in-If.else_part c.in-If.is in
    (omega (arith, c.decreases, lighter.0, ap (λ ss. block_weight (block_of ss)) c.deref-in-If-2.ensures.value), within)

pub stm_fault-block_fault-next-requires-in-If : goal.stm_fault-block_fault-next-requires-in-If
stm_fault-block_fault-next-requires-in-If g t c κs within =
    let lighter = if_lighter c.args.stm.now c.in-If.test c.in-If.last c.in-If.then_part c.in-If.else_part c.in-If.is in
    (omega (arith, c.decreases, lighter.1, ap (λ ss. block_weight (block_of ss)) c.deref-in-If-3.ensures.value), within)

pub stm_fault-block_fault-next-requires-in-Loop : goal.stm_fault-block_fault-next-requires-in-Loop
stm_fault-block_fault-next-requires-in-Loop g t c κs within =
    let lighter = loop_lighter c.args.stm.now c.in-Loop.entry c.in-Loop.exit c.in-Loop.do_part c.in-Loop.loop_part c.in-Loop.is in
    (omega (arith, c.decreases, lighter.0, ap (λ ss. block_weight (block_of ss)) c.deref-in-Loop-2.ensures.value), within)

pub stm_fault-block_fault-next-requires-in-Loop-2 : goal.stm_fault-block_fault-next-requires-in-Loop-2
stm_fault-block_fault-next-requires-in-Loop-2 g t c κs within =
    let lighter = loop_lighter c.args.stm.now c.in-Loop.entry c.in-Loop.exit c.in-Loop.do_part c.in-Loop.loop_part c.in-Loop.is in
    (omega (arith, c.decreases, lighter.1, ap (λ ss. block_weight (block_of ss)) c.deref-in-Loop-3.ensures.value), within)

pub stm_fault-block_fault-next-requires-in-LocalInt : goal.stm_fault-block_fault-next-requires-in-LocalInt
stm_fault-block_fault-next-requires-in-LocalInt g t c κs within =
    let lighter = local_int_lighter c.args.stm.now c.in-LocalInt.name c.in-LocalInt.field-3 c.in-LocalInt.begin c.in-LocalInt.end
    c.in-LocalInt.body c.in-LocalInt.is in
    (omega (arith, c.decreases, lighter, ap (λ ss. block_weight (block_of ss)) c.deref-in-LocalInt-2.ensures.value), within)

pub stm_fault-block_fault-requires : goal.stm_fault-block_fault-requires
stm_fault-block_fault-requires g t c κs within =
    let lighter = local_stack_lighter c.args.stm.now c.in-LocalStack.name c.in-LocalStack.field-2 c.in-LocalStack.body c.in-LocalStack.is in
    (omega (arith, c.decreases, lighter, ap (λ ss. block_weight (block_of ss)) c.deref-in-LocalStack.ensures.value), within)
