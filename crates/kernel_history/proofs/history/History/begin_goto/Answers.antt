use Rattle.std.proofs.Common.{◌≡◌, ◌<◌, length, inl, inr, sym, ap, ◌∙◌, subst}
use Rattle.std.proofs.lemmas.Bool.{cases_lt}
use Rattle.kernel_machine.specs.State as state
use Rattle.kernel_machine.specs.State.{Past}
use Rattle.kernel_history.specs.CountedState.{CountedState}
use Rattle.kernel_history.specs.Kept.{Kept, IsKept}
use Rattle.kernel_history.specs.declared.job.Open.{Open}
use Rattle.kernel_history.specs.declared.job.Open.TheVariants.{Idle}
use Rattle.kernel_history.proofs.Standing.{idle_job, idle_in_time, kept_with_room}
use Rattle.kernel_history.specs.Fields.{past_of, nodes_of}
use Rattle.kernel_machine.specs.Legal.{IsLegal, CanGo}
use Rattle.kernel_machine.specs.declared.travel.Travel.{Travel}
use Rattle.kernel_machine.proofs.Trees.{meeting_way}
use Rattle.kernel_history.proofs.history.History.begin_goto.Goals as goal

pub depart-job-requires-clause-way : goal.depart-job-requires-clause-way
depart-job-requires-clause-way g c =
    let tree = c.find_way.new.tree in
    let legal : IsLegal (past_of c.find_way.new.tree) = subst (λ (s : Past). IsLegal s) (sym c.find_way.ensures.same) c.self.invariant.kept.legal in
    let low : c.args.n < length (nodes_of c.self.inside.tree) = elim (cases_lt c.args.n (length (nodes_of c.self.inside.tree))) [
      | inl known ↦ known
      | inr past ↦ absurd (let none = c.in-Ok.ensures.no_node.1 past in cc)
    ] in
    let known : c.args.n < length (nodes_of c.find_way.new.tree) = subst (λ (s : Past). c.args.n < length s.nodes) (sym c.find_way.ensures.same) low in
    subst (λ (t : Travel). CanGo t.aim (nodes_of c.find_way.new.tree) c.find_way.new.tree.cells.favourites c.find_way.new.tree.position t.up t.down)
    (sym c.new-travel.ensures)
    (meeting_way (past_of c.find_way.new.tree) c.args.n c.in-Ok.way.up c.in-Ok.way.down legal known c.in-Ok.ensures.way)

-- a way that is sought changes the tree's way alone
pub depart-job-requires-clause-idle : goal.depart-job-requires-clause-idle
depart-job-requires-clause-idle g c =
    let idle : c.self.inside.job ≡ Idle = idle_job c.self.inside.job (subst (λ (s : CountedState). s.state.job ≡ state.Idle) (sym c.self.view_is) c.requires) in
    let kept : Kept c.self.inside.tree c.self.inside.runner Idle =
    subst (λ (j : Open). Kept c.self.inside.tree c.self.inside.runner j) idle c.self.invariant.kept in
    kept_with_room c.self.inside.tree c.find_way.new.tree c.self.inside.runner kept c.find_way.ensures.same c.find_way.ensures.nodes
    (ap (λ (s : Past). s.position) c.find_way.ensures.same)

pub invariant_of-self : goal.invariant_of-self
invariant_of-self g c =
    let idle : c.self.inside.job ≡ Idle = idle_job c.self.inside.job (subst (λ (s : CountedState). s.state.job ≡ state.Idle) (sym c.self.view_is) c.requires) in
    let kept : Kept c.self.inside.tree c.self.inside.runner Idle =
    subst (λ (j : Open). Kept c.self.inside.tree c.self.inside.runner j) idle c.self.invariant.kept in
    let now : Kept c.find_way.new.tree c.self.inside.runner Idle =
    kept_with_room c.self.inside.tree c.find_way.new.tree c.self.inside.runner kept c.find_way.ensures.same c.find_way.ensures.nodes
    (ap (λ (s : Past). s.position) c.find_way.ensures.same) in
    subst (λ (j : Open). IsKept c.find_way.new.tree c.self.inside.runner j) (sym idle) (idle_in_time c.find_way.new.tree c.self.inside.runner now)

pub returns-clause-counts : goal.returns-clause-counts
returns-clause-counts g c =
    record {
      writes = c.depart-job.ensures.counts.writes ∙ ap (λ (s : CountedState). s.writes) c.self.view_is;
      steps = c.depart-job.ensures.counts.steps ∙ ap (λ (s : CountedState). s.steps) c.self.view_is;
    }
