use Rattle.std.proofs.Common.{List, take, refl, sym, ap, ◌∙◌, subst}
use Rattle.janus_meaning.specs.Syntax.{Name}
use Rattle.kernel_loader.specs.StoreState.{StoreState, IsWhole}
use Rattle.kernel_loader.proofs.Unlisted.{shows_less}
use Rattle.kernel_history.specs.Fields.{past_of, work_of}
use Rattle.kernel_history.specs.Bodies.{bodies_at}
use Rattle.kernel_history.specs.Standing.{shown_here}
use Rattle.kernel_loader.proofs.Growing.{same_more}
use Rattle.kernel_history.proofs.Standing.{work_possible, below_there, cell_of_down, can_leave_cell, can_leave_down, shows_up, below_posted, nodes_forgotten}
use Rattle.kernel_history.proofs.Standing.{no_other_forgotten, no_other_back, nodes_ready, shows_forgotten, older_names_left, no_name_forgotten, no_name_back}
use Rattle.kernel_history.specs.Kept.{unlisted}
use Rattle.kernel_history.proofs.settle.settle_back.Goals as goal

pub leave-requires : goal.leave-requires
leave-requires g c =
    let k = c.requires.kept in
    (shown_here c.args.tree.now, can_leave_cell c.args.tree.now c.args.runner.now c.args.work.now k.0 k.1 c.in-Cell.program c.in-Cell.is c.requires.whole)

pub returns-in-Cell-clause-is : goal.returns-in-Cell-clause-is
returns-in-Cell-clause-is g c =
    let k = c.requires.kept in
    let tree = c.args.tree.now in
    let can = can_leave_cell tree c.args.runner.now c.args.work.now k.0 k.1 c.in-Cell.program c.in-Cell.is c.requires.whole in
    let left = c.leave.ensures.leaves (shown_here tree) can in
    let low = below_posted tree c.args.runner.now c.args.work.now k.0 k.1 c.in-Cell.program c.in-Cell.is in
    let older = older_names_left tree c.args.runner.now c.args.work.now k.0 k.1 c.leave.new.self c.in-Cell.program c.in-Cell.is
    c.leave.ensures.entries c.leave.ensures.kept in
    let same = c.forget.ensures.store in (
      shows_forgotten (unlisted c.in-Cell.program c.leave.new.self) c.forget.new.self c.in-Cell.program.first (shown_here tree) same c.forget.ensures.entries
          (shows_less c.leave.new.self (take c.in-Cell.program.first_name c.leave.new.self.entries) (shown_here tree) older.listed older.same left.0) low
          c.forget.ensures.kept
          (c.forget.ensures.defined (bodies_at tree tree.position) left.0.defined.defined low),
      subst (λ (h : StoreState). IsWhole h) (sym same) left.1,
    )

pub returns-in-Cell-clause-ready : goal.returns-in-Cell-clause-ready
returns-in-Cell-clause-ready g c =
    let k = c.requires.kept in
    let older = older_names_left c.args.tree.now c.args.runner.now c.args.work.now k.0 k.1 c.leave.new.self c.in-Cell.program c.in-Cell.is
    c.leave.ensures.entries c.leave.ensures.kept in
    nodes_forgotten c.args.tree.now c.args.runner.now c.args.work.now k.0 k.1 (unlisted c.in-Cell.program c.leave.new.self) c.forget.new.self
    c.in-Cell.program c.in-Cell.is c.forget.ensures.entries c.forget.ensures.kept older.ready

-- the bodies of the posted cell are dropped
pub returns-in-Cell-clause-no_other : goal.returns-in-Cell-clause-no_other
returns-in-Cell-clause-no_other g c =
    let k = c.requires.kept in
    no_other_forgotten c.args.tree.now c.args.runner.now c.args.work.now k.0 k.1 c.leave.new.self.procedures c.forget.new.self.procedures c.in-Cell.program
    c.in-Cell.is c.leave.ensures.kept c.forget.ensures.kept

pub returns-in-Down-clause-no_other : goal.returns-in-Down-clause-no_other
returns-in-Down-clause-no_other g c =
    let k = c.requires.kept in
    no_other_back c.args.tree.now c.args.runner.now c.args.work.now k.0 k.1 c.in-Move.travel c.leave-in-Down.new.self.procedures c.in-Move.is
    c.leave-in-Down.ensures.kept

pub returns-in-Up-clause-no_other : goal.returns-in-Up-clause-no_other
returns-in-Up-clause-no_other g c =
    let k = c.requires.kept in
    no_other_back c.args.tree.now c.args.runner.now c.args.work.now k.0 k.1 c.in-Move.travel c.args.runner.now.procedures c.in-Move.is refl

pub leave-requires-in-Down : goal.leave-requires-in-Down
leave-requires-in-Down g c =
    let k = c.requires.kept in
    let way = sym c.way.ensures ∙ c.in-Down.is in
    let at = cell_of_down c.args.tree.now c.args.work.now c.in-Move.travel c.content.result.now c.below.result k.1.legal k.1.possible c.in-Move.is way
    c.below.ensures c.content.ensures in (
      shown_here c.args.tree.now,
      can_leave_down c.args.tree.now c.args.runner.now c.args.work.now k.0 k.1 c.in-Move.travel c.content.result.now c.in-Move.is way
          at c.requires.whole,
    )

pub returns-in-Down-clause-is : goal.returns-in-Down-clause-is
returns-in-Down-clause-is g c =
    let k = c.requires.kept in
    let way = sym c.way.ensures ∙ c.in-Down.is in
    let at = cell_of_down c.args.tree.now c.args.work.now c.in-Move.travel c.content.result.now c.below.result k.1.legal k.1.possible c.in-Move.is way
    c.below.ensures c.content.ensures in
    c.leave-in-Down.ensures.leaves
    _ (can_leave_down c.args.tree.now c.args.runner.now c.args.work.now k.0 k.1 c.in-Move.travel c.content.result.now c.in-Move.is way at c.requires.whole)

pub returns-in-Down-clause-ready : goal.returns-in-Down-clause-ready
returns-in-Down-clause-ready g c = nodes_ready c.args.tree.now c.args.runner.now c.leave-in-Down.new.self
    (same_more c.args.runner.now.entries c.leave-in-Down.new.self.entries c.leave-in-Down.ensures.entries) c.leave-in-Down.ensures.kept c.requires.kept.1.ready

pub returns-in-Up-clause-is : goal.returns-in-Up-clause-is
returns-in-Up-clause-is g c =
    let k = c.requires.kept in
    (shows_up c.args.tree.now c.args.runner.now c.args.work.now k.0 k.1 c.in-Move.travel c.in-Move.is (sym c.way.ensures ∙ c.in-Up.is), c.requires.whole)

pub returns-in-Up-clause-ready : goal.returns-in-Up-clause-ready
returns-in-Up-clause-ready g c = c.requires.kept.1.ready

pub content-requires-clause-below_root : goal.content-requires-clause-below_root
content-requires-clause-below_root g c =
    let k = c.requires.kept in
    let possible = work_possible (past_of c.args.tree.now) (work_of c.args.work.now) c.in-Move.travel (ap work_of c.in-Move.is) k.1.possible in
    (below_there c.args.tree.now c.in-Move.travel c.below.result k.1.legal (sym c.way.ensures ∙ c.in-Down.is) possible c.below.ensures).0

pub content-requires-clause-known : goal.content-requires-clause-known
content-requires-clause-known g c =
    let k = c.requires.kept in
    let possible = work_possible (past_of c.args.tree.now) (work_of c.args.work.now) c.in-Move.travel (ap work_of c.in-Move.is) k.1.possible in
    (below_there c.args.tree.now c.in-Move.travel c.below.result k.1.legal (sym c.way.ensures ∙ c.in-Down.is) possible c.below.ensures).1

pub returns-in-Cell-clause-counts : goal.returns-in-Cell-clause-counts
returns-in-Cell-clause-counts g c =
    record {
      writes = c.forget.ensures.counts.writes ∙ c.leave.ensures.counts.writes;
      steps = c.forget.ensures.counts.steps ∙ c.leave.ensures.counts.steps;
    }

pub returns-in-Cell-clause-entries : goal.returns-in-Cell-clause-entries
returns-in-Cell-clause-entries g c =
    rw c.in-Cell.is (c.forget.ensures.entries ∙ ap (λ (l : List Name). take c.in-Cell.program.first_name l) c.leave.ensures.entries)

pub returns-in-Cell-clause-no_name : goal.returns-in-Cell-clause-no_name
returns-in-Cell-clause-no_name g c =
    let k = c.requires.kept in
    no_name_forgotten c.args.tree.now c.args.runner.now c.args.work.now k.0 k.1 c.forget.new.self.entries c.in-Cell.program c.in-Cell.is
    (c.forget.ensures.entries ∙ ap (λ (l : List Name). take c.in-Cell.program.first_name l) c.leave.ensures.entries)

pub returns-in-Down-clause-no_name : goal.returns-in-Down-clause-no_name
returns-in-Down-clause-no_name g c =
    let k = c.requires.kept in
    no_name_back c.args.tree.now c.args.runner.now c.args.work.now k.0 k.1 c.in-Move.travel c.leave-in-Down.new.self.entries c.in-Move.is
    c.leave-in-Down.ensures.entries

pub returns-in-Up-clause-no_name : goal.returns-in-Up-clause-no_name
returns-in-Up-clause-no_name g c =
    let k = c.requires.kept in
    no_name_back c.args.tree.now c.args.runner.now c.args.work.now k.0 k.1 c.in-Move.travel c.args.runner.now.entries c.in-Move.is refl
