use Rattle.std.proofs.Common.{◌≡◌, ◌<◌, ◌++◌, [], map, sym, ap, ◌∙◌, arith, rules}
use Rattle.janus_meaning.specs.World.{Cell, define}
use Rattle.janus_syntax.specs.Tree.{procedures_view}
use Rattle.janus_syntax.specs.View.{plain_procedure}
use Rattle.kernel_loader.specs.Defined.{in_a_row}
use Rattle.kernel_history.specs.Fields.{past_of}
use Rattle.kernel_machine.specs.State.{here}
use Rattle.kernel_history.proofs.Nodes.{count_of_nodes, parent_there, cell_there}
use Rattle.kernel_history.proofs.Rows.{over, climbed, at_root}
use Rattle.kernel_history.proofs.Standing.{position_known}
use Rattle.kernel_history.proofs.defined.all_procedures.Goals as goal

pub loop-at-init : goal.loop-at-init
loop-at-init c =
    let own = map plain_procedure (procedures_view c.args.own.now) in
    let none : c.new-all.result.items ≡ [] = search rules in (
      position_known c.args.tree.now c.requires,
      ap (λ l. l ++ (here (past_of c.args.tree.now)).procedures) (c.in_ok-add_newest_first.ensures ∙ ap (λ l. in_a_row l ++ define own []) none)
          ∙ sym (over own (here (past_of c.args.tree.now)).procedures),
    )

pub loop-at-preserved : goal.loop-at-preserved
loop-at-preserved c =
    let some : 0 < c.loop-at.at = omega (arith, c.loop-at-test.true) in
    let low = c.parent-at.ensures.before some in
    let within = c.loop-at.invariant.0 in
    let size = count_of_nodes c.args.tree.now in (
      omega arith,
      climbed (past_of c.args.tree.now) c.loop-at.at c.parent-at.result _ _ _ _ c.requires some (omega (arith, within, size))
          (c.procedures.ensures ∙ ap (λ (d : Cell). d.procedures) (cell_there c.args.tree.now c.loop-at.at c.content.result.now (some, c.content.ensures)))
          (c.parent-at.ensures.parent ∙ sym (parent_there c.args.tree.now c.loop-at.at)) c.loop-at.invariant.1 c.in_ok-add_newest_first-2.ensures,
    )

pub returns : goal.returns
returns c = at_root (past_of c.args.tree.now) c.loop-at.at _ _ c.requires c.loop-at-test.false c.loop-at.invariant.1
