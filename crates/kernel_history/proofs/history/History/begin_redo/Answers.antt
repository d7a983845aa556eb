use Rattle.std.proofs.Common.{◌≡◌, sym, ap, ◌∙◌, subst}
use Rattle.kernel_machine.specs.State as state
use Rattle.kernel_history.specs.CountedState.{CountedState}
use Rattle.kernel_history.specs.Kept.{Kept}
use Rattle.kernel_history.specs.declared.job.Open.{Open}
use Rattle.kernel_history.specs.declared.job.Open.TheVariants.{Idle}
use Rattle.kernel_history.proofs.Standing.{idle_job}
use Rattle.kernel_history.proofs.history.History.begin_redo.Goals as goal

pub returns-clause-counts : goal.returns-clause-counts
returns-clause-counts g c =
    record {
      writes = c.depart-job.ensures.counts.writes ∙ ap (λ (s : CountedState). s.writes) c.self.view_is;
      steps = c.depart-job.ensures.counts.steps ∙ ap (λ (s : CountedState). s.steps) c.self.view_is;
    }

pub depart-job-requires-clause-idle : goal.depart-job-requires-clause-idle
depart-job-requires-clause-idle g c =
    let idle : c.self.inside.job ≡ Idle = idle_job c.self.inside.job (subst (λ (s : CountedState). s.state.job ≡ state.Idle) (sym c.self.view_is) c.requires) in
    subst (λ (j : Open). Kept c.self.inside.tree c.self.inside.runner j) idle c.self.invariant.kept
