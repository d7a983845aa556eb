use Rattle.std.proofs.Common.{◌≡◌, ap, subst}
use Rattle.kernel_machine.specs.State as state
use Rattle.kernel_history.specs.CountedState.{CountedState}
use Rattle.kernel_history.specs.Fields.{work_of, job_of}
use Rattle.kernel_history.proofs.history.History.stage.Goals as goal

pub returns-in-Inside : goal.returns-in-Inside
returns-in-Inside g c =
    let e : state.Entered = record { work = work_of c.in-Inside.field-0.work; count = c.in-Inside.field-0.count; heading = c.in-Inside.field-0.heading } in
    (e, subst (λ (s : CountedState). s.state.job ≡ state.Inside e) c.self.view_is (ap job_of c.in-Inside.is))
