use Rattle.std.proofs.Common.{ℕ, refl, ap, sym, subst}
use Rattle.cell_tree.specs.Tree as cells
use Rattle.kernel_machine.specs.State as state
use Rattle.kernel_machine.specs.State.{here, code_of}
use Rattle.kernel_machine.specs.Language.{start_of}
use Rattle.kernel_history.specs.Fields.{past_of, state_of}
use Rattle.kernel_machine.specs.Slices.{Arrives, cells as cells_left}
use Rattle.kernel_loader.specs.Runner.{world_of}
use Rattle.kernel_machine.specs.declared.travel.Travel.{Travel}
use Rattle.kernel_history.specs.declared.tree.EndedCell.{EndedCell}
use Rattle.kernel_history.specs.declared.tree.HistoryTree.{HistoryTree}
use Rattle.kernel_history.proofs.Nodes.{child_below}
use Rattle.kernel_history.proofs.Standing.{kept_down, shows_down, settled_down}
use Rattle.kernel_machine.proofs.Trees.{next_below}
use Rattle.kernel_history.proofs.settle.settle_down.Given as given
use Rattle.kernel_history.proofs.settle.settle_down.Goals as goal

abbrev there : (g : given.Over) → goal.After-arrive g → HistoryTree
there g c = record { cells = c.set_favourite.new.self; position = c.below-child.result }

pub set_favourite-requires : goal.set_favourite-requires
set_favourite-requires g c =
    let next = next_below (past_of c.args.tree.now) c.args.travel c.requires.come.kept.legal c.requires.way c.requires.come.kept.possible in
    subst (λ (n : ℕ). cells.IsChild c.args.tree.now.cells c.args.tree.now.position n) (sym c.below-child.ensures) (child_below c.args.tree.now _ next)

pub returns-clause-step : goal.returns-clause-step
returns-clause-step g c =
    settled_down c.args.tree.now (there g c) c.below-child.result c.args.travel c.args.n
    (world_of (start_of (code_of (past_of c.args.tree.now) (state.Move c.args.travel)) (here (past_of c.args.tree.now))).procedures c.args.runner.now)
    c.arrive.result.1 _ c.requires.way c.below-child.ensures
    (ap (λ (t : cells.Tree EndedCell). t.nodes) c.set_favourite.ensures) (ap (λ (t : cells.Tree EndedCell). t.favourites) c.set_favourite.ensures) refl
    (subst (λ (t : Travel). Arrives (cells_left t) (past_of (there g c)) t c.arrive.result.1 (state_of (there g c) c.arrive.result.0)) c.stepped.ensures
    (c.arrive.ensures _))

pub returns-clause-kept : goal.returns-clause-kept
returns-clause-kept g c =
    kept_down c.args.tree.now (there g c) c.below-child.result c.args.travel c.args.runner.now c.arrive.result.1 c.arrive.result.0 c.requires.way
    c.requires.come.kept.legal c.requires.come.kept.possible c.requires.come.kept.counted c.requires.come.kept.path c.requires.come.kept.ready
    c.requires.come.kept.order c.requires.come.kept.no_other c.requires.come.kept.no_name c.requires.come.whole
    c.below-child.ensures (ap (λ (t : cells.Tree EndedCell). t.nodes) c.set_favourite.ensures)
    (ap (λ (t : cells.Tree EndedCell). t.favourites) c.set_favourite.ensures) refl (ap (λ (t : cells.Tree EndedCell). t.way) c.set_favourite.ensures)
    (shows_down c.args.tree.now c.args.runner.now c.args.travel c.args.n c.requires.come.kept c.requires.way c.requires.come.ended)
    (subst (λ (t : Travel). Arrives (cells_left t) (past_of (there g c)) t c.arrive.result.1 (state_of (there g c) c.arrive.result.0)) c.stepped.ensures
    (c.arrive.ensures _))
