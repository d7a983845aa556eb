use Rattle.std.proofs.Common.{◌≡◌, sym, ap, ◌∙◌, subst}
use Rattle.kernel_machine.specs.State as state
use Rattle.kernel_history.specs.CountedState.{CountedState}
use Rattle.kernel_history.specs.Kept.{Kept}
use Rattle.kernel_history.specs.declared.job.Open.{Open}
use Rattle.kernel_history.specs.declared.job.Open.TheVariants.{Border}
use Rattle.kernel_history.proofs.Standing.{border_job}
use Rattle.kernel_history.proofs.history.History.enter.Goals as goal

pub returns-clause-counts : goal.returns-clause-counts
returns-clause-counts g c =
    record {
      writes = c.enter-job.ensures.counts.writes ∙ ap (λ (s : CountedState). s.writes) c.self.view_is;
      steps = c.enter-job.ensures.counts.steps ∙ ap (λ (s : CountedState). s.steps) c.self.view_is;
    }

pub enter-job-requires : goal.enter-job-requires
enter-job-requires g c =
    let at = border_job c.self.inside.job c.args.travel
    (subst (λ (s : CountedState). s.state.job ≡ state.Border c.args.travel) (sym c.self.view_is) c.requires) in
    subst (λ (j : Open). Kept c.self.inside.tree c.self.inside.runner j) (at.1 ∙ ap Border at.2) c.self.invariant.kept
