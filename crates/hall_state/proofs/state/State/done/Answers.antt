use Rattle.std.proofs.Common.{◌-◌, [], get_or, sym, subst}
use Rattle.kernel_audit.specs.Notes.{wished_in}
use Rattle.kernel_audit.specs.done.Done.{Done}
use Rattle.hall_state.specs.PendingResults.{IsToldOnce}
use Rattle.hall_state.proofs.state.State.done.Goals as goal

pub returns-in-Some-clause-once : goal.returns-in-Some-clause-once
returns-in-Some-clause-once g c =
    let old = c.args.self.now in
    subst (λ (d : Done). ∥ IsToldOnce old.kernel.machine.minutes (get_or (wished_in old.notes) (c.args.number - 1) []) d ∥₁) (sym c.tell.ensures.same)
    c.in-Some.ensures.once
