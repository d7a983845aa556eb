use Rattle.std.proofs.Common.{false, sym, ◌∙◌, subst}
use Rattle.janus_meaning.specs.World.{World}
use Rattle.kernel_machine.specs.State as state
use Rattle.kernel_machine.specs.State.{here, code_of, node_at, world_at}
use Rattle.kernel_machine.specs.Language.{start_of}
use Rattle.kernel_history.specs.Fields.{past_of, state_of}
use Rattle.kernel_history.specs.Bodies.{IsCellAt}
use Rattle.kernel_machine.specs.Slices.{Arrives, cells}
use Rattle.kernel_machine.specs.declared.travel.Travel.{Travel}
use Rattle.kernel_loader.specs.Runner.{world_of}
use Rattle.kernel_loader.proofs.Growing.{same_more}
use Rattle.kernel_history.proofs.Nodes.{parent_there}
use Rattle.kernel_history.proofs.TableNames.{names_same}
use Rattle.kernel_history.proofs.Standing.{kept_up, up_names, settled_up, nodes_ready, no_other_same, can_leave_up}
use Rattle.kernel_machine.proofs.Trees.{up_possible}
use Rattle.kernel_history.proofs.settle.settle_up.Goals as goal

pub leave-requires : goal.leave-requires
leave-requires g c =
    let tree = c.args.tree.now in
    let k = c.requires.come.kept in
    let some = (up_possible (past_of tree) c.args.travel c.requires.way k.possible).0 in
    let at : IsCellAt tree tree.position c.content.result.now = (some, c.content.ensures) in
    let w : World = world_of (start_of (code_of (past_of tree) (state.Move c.args.travel)) (here (past_of tree))).procedures c.args.runner.now in
    let names = up_names tree c.args.travel c.args.n w c.content.result.now c.requires.way k.legal k.possible c.requires.come.ended at in (
      _,
      can_leave_up tree c.args.runner.now c.content.result.now c.args.n at k.legal c.args.travel false c.requires.way k.stands c.requires.come.whole k.ready
          names,
    )

pub returns-clause-step : goal.returns-clause-step
returns-clause-step g c =
    let tree = c.args.tree.now in
    let w : World = world_of (start_of (code_of (past_of tree) (state.Move c.args.travel)) (here (past_of tree))).procedures c.args.runner.now in
    settled_up tree c.parent-tree.result c.args.travel c.args.n w c.arrive.result.1 _ c.requires.way
    (c.parent-tree.ensures.parent ∙ sym (parent_there tree tree.position))
    (subst (λ (t : Travel). Arrives (cells t) (past_of (record tree { position = c.parent-tree.result })) t c.arrive.result.1
    (state_of (record tree { position = c.parent-tree.result }) c.arrive.result.0)) c.stepped.ensures (c.arrive.ensures _))

pub returns-clause-kept : goal.returns-clause-kept
returns-clause-kept g c =
    let tree = c.args.tree.now in
    let k = c.requires.come.kept in
    let some = (up_possible (past_of tree) c.args.travel c.requires.way k.possible).0 in
    let at : IsCellAt tree tree.position c.content.result.now = (some, c.content.ensures) in
    let w : World = world_of (start_of (code_of (past_of tree) (state.Move c.args.travel)) (here (past_of tree))).procedures c.args.runner.now in
    let names = up_names tree c.args.travel c.args.n w c.content.result.now c.requires.way k.legal k.possible c.requires.come.ended at in
    let can = can_leave_up tree c.args.runner.now c.content.result.now c.args.n at k.legal c.args.travel false c.requires.way k.stands c.requires.come.whole
    k.ready names in
    kept_up tree c.parent-tree.result c.args.travel c.leave.new.self c.arrive.result.1 c.arrive.result.0 c.requires.way k.legal k.possible k.counted k.path
    (nodes_ready tree c.args.runner.now c.leave.new.self
    (same_more c.args.runner.now.entries c.leave.new.self.entries c.leave.ensures.entries) c.leave.ensures.kept k.ready) k.order
    (no_other_same tree c.args.runner.now.procedures c.leave.new.self.procedures c.leave.ensures.kept k.no_other)
    (names_same tree c.args.runner.now.entries c.leave.new.self.entries c.leave.ensures.entries k.no_name) (c.leave.ensures.leaves _ can).1
    (c.parent-tree.ensures.parent ∙ sym (parent_there tree tree.position)) (c.leave.ensures.leaves _ can).0
    (subst (λ (t : Travel). Arrives (cells t) (past_of (record tree { position = c.parent-tree.result })) t c.arrive.result.1
    (state_of (record tree { position = c.parent-tree.result }) c.arrive.result.0)) c.stepped.ensures (c.arrive.ensures _))
