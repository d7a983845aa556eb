use Rattle.std.proofs.Common.{ℕ, ap}
use Rattle.kernel_machine.specs.State as state
use Rattle.kernel_machine.specs.State.{Past, here}
use Rattle.kernel_machine.specs.Language.{Forward, start_of}
use Rattle.kernel_history.specs.Fields.{past_of}
use Rattle.kernel_history.specs.declared.tree.HistoryTree.{HistoryTree}
use Rattle.kernel_loader.specs.Program.{cell_of_program}
use Rattle.kernel_loader.specs.Runner.{world_of}
use Rattle.kernel_machine.specs.declared.outcome.Outcome.TheVariants as outcome
use Rattle.kernel_machine.specs.declared.outcome.Sliced.TheVariants as sliced
use Rattle.kernel_history.proofs.Nodes.{child_added, number_added, nodes_added, favourites_added, one_more}
use Rattle.kernel_history.proofs.Standing.{state_grown, placed_more, ordered_more, no_other_more, no_name_more, shown_more, kept_grown}
use Rattle.kernel_history.proofs.settle.settle_cell.Goals as goal

pub set_favourite-requires : goal.set_favourite-requires
set_favourite-requires g c =
    child_added c.args.tree.now.cells c.add-number.new.self _ c.add-number.result c.add-number.ensures.added c.add-number.ensures.number

pub returns-clause-step : goal.returns-clause-step
returns-clause-step g c =
    let number = number_added c.args.tree.now c.add-number.result c.add-number.ensures.number in
    let nodes = nodes_added c.args.tree.now c.add-number.new.self c.set_favourite.new.self _ c.add-number.result c.add-number.ensures.added
    c.set_favourite.ensures in
    let favourites =
    favourites_added c.args.tree.now c.add-number.new.self c.set_favourite.new.self _ c.add-number.result c.requires.kept.legal c.add-number.ensures.added
    c.add-number.ensures.number c.set_favourite.ensures in
    let more = one_more c.args.tree.now (record { cells = c.set_favourite.new.self; position = c.add-number.result }) _ nodes in
    let past = state_grown c.args.tree.now (record { cells = c.set_favourite.new.self; position = c.add-number.result }) (cell_of_program c.args.program)
    c.args.n (world_of (start_of (Forward (cell_of_program c.args.program)) (here (past_of c.args.tree.now))).procedures c.args.runner.now)
    more favourites number c.requires.ended in
    (ap (λ (k : ℕ). sliced.Ended (outcome.Ran k c.args.n)) number, ap (λ (p : Past). record { past = p; job = state.Idle }) past)

pub returns-clause-kept : goal.returns-clause-kept
returns-clause-kept g c =
    let number = number_added c.args.tree.now c.add-number.result c.add-number.ensures.number in
    let nodes = nodes_added c.args.tree.now c.add-number.new.self c.set_favourite.new.self _ c.add-number.result c.add-number.ensures.added
    c.set_favourite.ensures in
    let favourites =
    favourites_added c.args.tree.now c.add-number.new.self c.set_favourite.new.self _ c.add-number.result c.requires.kept.legal c.add-number.ensures.added
    c.add-number.ensures.number c.set_favourite.ensures in
    let more = one_more c.args.tree.now (record { cells = c.set_favourite.new.self; position = c.add-number.result }) _ nodes in
    let larger : HistoryTree = record { cells = c.set_favourite.new.self; position = c.add-number.result } in
    kept_grown c.args.tree.now larger (cell_of_program c.args.program) c.args.n c.args.runner.now
    (world_of (start_of (Forward (cell_of_program c.args.program)) (here (past_of c.args.tree.now))).procedures c.args.runner.now)
    more favourites number c.requires.kept.legal c.requires.kept.possible c.requires.ended
    (shown_more c.args.tree.now larger c.args.program c.args.n c.args.runner.now c.requires.kept nodes number) c.requires.whole
    (placed_more c.args.tree.now larger c.args.program c.args.n c.args.runner.now c.requires.kept nodes _ c.requires.ended)
    (ordered_more c.args.tree.now larger c.args.program c.args.n c.args.runner.now c.requires.kept nodes)
    (no_other_more c.args.tree.now larger c.args.program c.args.n c.args.runner.now c.requires.kept nodes)
    (no_name_more c.args.tree.now larger c.args.program c.args.n c.args.runner.now c.requires.kept nodes)
