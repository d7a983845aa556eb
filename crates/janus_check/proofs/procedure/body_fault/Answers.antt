use Rattle.std.proofs.Common.{◌∙◌, ap, []}
use Rattle.janus_syntax.specs.Tree.{parameters_view, block_view}
use Rattle.janus_check.specs.Fault.{first_from}
use Rattle.janus_check.specs.Check.{body_sight, parameters_faults, block_faults}
use Rattle.janus_check.specs.Sight.{heads_over}
use Rattle.janus_check.proofs.FirstLemmas.{two_parts}
use Rattle.janus_check.proofs.procedure.body_fault.Goals as goal

pub returns : goal.returns
returns g c =
    let table = g.T.SymbolTable.known in
    let hs = heads_over (table c.args.env.now) c.args.own.now in
    let xs = parameters_view c.args.procedure.now.parameters.items in
    let next = c.parameters_fault-next.result in
    two_parts c.args.first next c.block_fault.result (parameters_faults [] xs) (block_faults hs (body_sight xs) (block_view c.args.procedure.now.body.items))
    (c.parameters_fault-next.ensures ∙ ap (λ ps. first_from c.args.first (parameters_faults [] (parameters_view ps))) c.deref.ensures.value)
    (c.block_fault.ensures
    ∙ (λ i. first_from next (block_faults ((c.body-sight.ensures.heads ∙ c.declared-declared.ensures.heads) i) (c.body-sight.ensures.names i)
    (block_view c.deref-3.result.now)))
    ∙ ap (λ b. first_from next (block_faults hs (body_sight (parameters_view c.deref-2.result.now)) (block_view b))) c.deref-3.ensures.value
    ∙ ap (λ ps. first_from next (block_faults hs (body_sight (parameters_view ps)) (block_view c.args.procedure.now.body.items))) c.deref-2.ensures.value)
