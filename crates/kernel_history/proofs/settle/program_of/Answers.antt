use Rattle.std.proofs.Common.{sym, ap, ◌∙◌}
use Rattle.kernel_history.specs.Fields.{past_of, work_of}
use Rattle.kernel_history.proofs.Standing.{work_possible, below_there, cell_of_up, cell_of_down, program_up, program_down}
use Rattle.kernel_history.proofs.settle.program_of.Goals as goal

pub returns-in-Up : goal.returns-in-Up
returns-in-Up c =
    program_up c.args.tree.now c.args.work.now c.in-Move.travel c.content.result.now c.in-Move.is (sym c.way.ensures ∙ c.in-Up.is)
    (cell_of_up c.args.tree.now c.args.work.now c.in-Move.travel c.content.result.now c.requires.legal c.requires.possible c.in-Move.is
    (sym c.way.ensures ∙ c.in-Up.is) c.content.ensures)

pub returns-in-Down : goal.returns-in-Down
returns-in-Down c =
    program_down c.args.tree.now c.args.work.now c.in-Move.travel c.content-in-Down.result.now c.in-Move.is (sym c.way.ensures ∙ c.in-Down.is)
    (cell_of_down c.args.tree.now c.args.work.now c.in-Move.travel c.content-in-Down.result.now c.below.result c.requires.legal c.requires.possible c.in-Move.is
    (sym c.way.ensures ∙ c.in-Down.is) c.below.ensures c.content-in-Down.ensures)

pub content-requires-in-Down-clause-below_root : goal.content-requires-in-Down-clause-below_root
content-requires-in-Down-clause-below_root c =
    let possible = work_possible (past_of c.args.tree.now) (work_of c.args.work.now) c.in-Move.travel (ap work_of c.in-Move.is) c.requires.possible in
    (below_there c.args.tree.now c.in-Move.travel c.below.result c.requires.legal (sym c.way.ensures ∙ c.in-Down.is) possible c.below.ensures).0

pub content-requires-in-Down-clause-known : goal.content-requires-in-Down-clause-known
content-requires-in-Down-clause-known c =
    let possible = work_possible (past_of c.args.tree.now) (work_of c.args.work.now) c.in-Move.travel (ap work_of c.in-Move.is) c.requires.possible in
    (below_there c.args.tree.now c.in-Move.travel c.below.result c.requires.legal (sym c.way.ensures ∙ c.in-Down.is) possible c.below.ensures).1
