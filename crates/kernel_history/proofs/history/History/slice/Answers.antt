use Rattle.std.proofs.Common.{subst}
use Rattle.kernel_machine.specs.StepsOfSlices.{WritesOnSlice, StepsOnSlice}
use Rattle.kernel_loader.specs.Runner.{writes_of, steps_of}
use Rattle.kernel_history.specs.CountedState.{CountedState}
use Rattle.kernel_history.proofs.InTime.{slice_kept}
use Rattle.kernel_history.proofs.history.History.slice.Goals as goal

pub invariant_of-self : goal.invariant_of-self
invariant_of-self g c =
    slice_kept c.self.inside.tree c.slice_job.new.tree c.self.inside.runner c.slice_job.new.runner c.self.inside.job c.slice_job.new.job c.args.m c.args.asked
    c.slice_job.result c.self.invariant c.slice_job.ensures.kept c.slice_job.ensures.slice

pub returns-clause-written : goal.returns-clause-written
returns-clause-written g c =
    subst (λ (s : CountedState). WritesOnSlice s.state c.args.m c.args.asked s.writes (writes_of c.slice_job.new.runner)) c.self.view_is
    c.slice_job.ensures.written

pub returns-clause-counted : goal.returns-clause-counted
returns-clause-counted g c =
    subst (λ (s : CountedState). StepsOnSlice s.state c.args.m c.args.asked s.steps (steps_of c.slice_job.new.runner)) c.self.view_is
    c.slice_job.ensures.counted
