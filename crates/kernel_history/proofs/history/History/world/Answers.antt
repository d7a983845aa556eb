use Rattle.std.proofs.Common.{sym, subst}
use Rattle.janus_meaning.specs.World.{World}
use Rattle.kernel_machine.specs.State.{Shown, ShownAt}
use Rattle.kernel_history.specs.CountedState.{CountedState}
use Rattle.kernel_history.specs.Fields.{past_of, job_of}
use Rattle.kernel_history.proofs.Standing.{shown_by}
use Rattle.kernel_history.proofs.history.History.world.Goals as goal

pub returns : goal.returns
returns g c =
    let shown = shown_by c.self.inside.tree c.self.inside.job c.self.inside.runner c.self.invariant.kept.stands in
    subst (λ (s : CountedState). Shown s.state c.of.result) c.self.view_is
    (subst (λ (w : World). ShownAt (past_of c.self.inside.tree) (job_of c.self.inside.job) w) (sym c.of.ensures) shown)
