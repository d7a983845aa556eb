use Rattle.std.proofs.Common.{ap, ◌∙◌}
use Rattle.janus_syntax.specs.Tree.{procedure_of, name_view, parameters_view, block_view}
use Rattle.janus_code.specs.Closed.{closed_block}
use Rattle.janus_code.proofs.Cells.{name_copied}
use Rattle.janus_code.proofs.closed.closed.Goals as goal

pub returns : goal.returns
returns c =
    let p = c.args.procedure.now in
    let ps = c.in_ok-parameters.parameters.items in
    let b = c.in_ok-body.body.items in
    ap (λ n. procedure_of n (parameters_view ps) (block_view b)) (name_copied p.name c.in_ok-name.name c.in_ok-name.ensures.name c.in_ok-name.ensures.place)
    ∙ ap (λ ps. procedure_of (name_view p.name) ps (block_view b)) (c.in_ok-parameters.ensures ∙ ap parameters_view c.deref.ensures.value)
    ∙ ap (procedure_of (name_view p.name) (parameters_view p.parameters.items))
    (c.in_ok-body.ensures ∙ ap (λ b. closed_block (block_view b)) c.deref-2.ensures.value)
