use Rattle.std.proofs.Common.{List, sym, ap, ◌∙◌}
use Rattle.janus_meaning.specs.Syntax.{Proc}
use Rattle.janus_meaning.specs.World.{Cell, define}
use Rattle.kernel_history.specs.Fields.{past_of, work_of}
use Rattle.kernel_machine.specs.State.{here}
use Rattle.kernel_history.proofs.Nodes.{cell_there}
use Rattle.kernel_history.proofs.Rows.{started_down}
use Rattle.kernel_history.proofs.Standing.{work_possible, below_there, cell_of_down}
use Rattle.kernel_history.proofs.defined.procedures_of.Goals as goal

pub content-requires-clause-below_root : goal.content-requires-clause-below_root
content-requires-clause-below_root c =
    let possible = work_possible (past_of c.args.tree.now) (work_of c.args.work.now) c.in-Move.travel (ap work_of c.in-Move.is) c.requires.possible in
    (below_there c.args.tree.now c.in-Move.travel c.below.result c.requires.legal (sym c.way.ensures ∙ c.in-Down.is) possible c.below.ensures).0

pub content-requires-clause-known : goal.content-requires-clause-known
content-requires-clause-known c =
    let possible = work_possible (past_of c.args.tree.now) (work_of c.args.work.now) c.in-Move.travel (ap work_of c.in-Move.is) c.requires.possible in
    (below_there c.args.tree.now c.in-Move.travel c.below.result c.requires.legal (sym c.way.ensures ∙ c.in-Down.is) possible c.below.ensures).1

pub returns-in-Down : goal.returns-in-Down
returns-in-Down c =
    let way = sym c.way.ensures ∙ c.in-Down.is in
    let at = cell_of_down c.args.tree.now c.args.work.now c.in-Move.travel c.content.result.now c.below.result c.requires.legal c.requires.possible c.in-Move.is
    way c.below.ensures c.content.ensures in
    ap (λ (ps : List Proc). define ps (here (past_of c.args.tree.now)).procedures)
    (c.procedures-in-Down.ensures ∙ ap (λ (d : Cell). d.procedures) (cell_there c.args.tree.now _ c.content.result.now at))
    ∙ sym (started_down (past_of c.args.tree.now) (work_of c.args.work.now) c.in-Move.travel (ap work_of c.in-Move.is) way)
