use Rattle.std.proofs.Common.{◌≡◌, ◌∙◌, ap, sym, subst}
use Rattle.janus_meaning.specs.Shape.{shape_of}
use Rattle.kernel_loader.specs.StoreState.{shown_store}
use Rattle.kernel_machine.specs.State as state
use Rattle.kernel_machine.specs.State.{here}
use Rattle.kernel_history.specs.CountedState.{CountedState}
use Rattle.kernel_history.specs.DeclaredNames.{known_by_names}
use Rattle.kernel_history.specs.Fields.{job_of}
use Rattle.kernel_history.proofs.Standing.{idle_store, idle_readable}
use Rattle.kernel_history.proofs.history.History.declared_names.Goals as goal

pub new-requires : goal.new-requires
new-requires g c =
    let idle : job_of c.self.inside.job ≡ state.Idle = subst (λ (s : CountedState). s.state.job ≡ state.Idle) (sym c.self.view_is) c.requires in
    idle_readable c.self.inside.tree c.self.inside.runner c.self.inside.job c.self.invariant.kept.stands idle c.self.invariant.kept.legal

pub returns-clause-known : goal.returns-clause-known
returns-clause-known g c =
    let idle : job_of c.self.inside.job ≡ state.Idle = subst (λ (s : CountedState). s.state.job ≡ state.Idle) (sym c.self.view_is) c.requires in
    c.new.ensures.known ∙ ap known_by_names
    (subst (λ (s : CountedState). shown_store c.self.inside.runner.counted.store ≡ (here s.state.past).store) c.self.view_is
    (idle_store c.self.inside.tree c.self.inside.runner c.self.inside.job c.self.invariant.kept.stands idle))

pub returns-clause-shape : goal.returns-clause-shape
returns-clause-shape g c =
    let idle : job_of c.self.inside.job ≡ state.Idle = subst (λ (s : CountedState). s.state.job ≡ state.Idle) (sym c.self.view_is) c.requires in
    c.new.ensures.shape ∙ ap shape_of
    (subst (λ (s : CountedState). shown_store c.self.inside.runner.counted.store ≡ (here s.state.past).store) c.self.view_is
    (idle_store c.self.inside.tree c.self.inside.runner c.self.inside.job c.self.invariant.kept.stands idle))
