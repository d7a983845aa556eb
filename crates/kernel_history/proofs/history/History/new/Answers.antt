use Rattle.std.proofs.Common.{ap, refl}
use Rattle.kernel_machine.specs.State.{Past, Idle}
use Rattle.kernel_history.proofs.Standing.{new_past, no_other_new, kept_new, idle_in_time}
use Rattle.kernel_history.proofs.TableNames.{none_listed}
use Rattle.kernel_history.proofs.history.History.new.Goals as goal

pub invariant_of-result : goal.invariant_of-result
invariant_of-result g c =
    idle_in_time _ _ (kept_new _ _ (new_past (record { cells = c.in-Ok.cells; position = 0 }) c.in-Ok.ensures.new refl) refl c.in-Ok-new.ensures.is
    (no_other_new (record { cells = c.in-Ok.cells; position = 0 }) c.in-Ok-new.runner.procedures c.in-Ok.ensures.new c.in-Ok-new.ensures.none)
    (none_listed (record { cells = c.in-Ok.cells; position = 0 }) c.in-Ok-new.runner.entries c.in-Ok-new.ensures.no_names))

pub returns-clause-state : goal.returns-clause-state
returns-clause-state g c =
    ap (λ (p : Past). record { past = p; job = Idle }) (new_past (record { cells = c.in-Ok.cells; position = 0 }) c.in-Ok.ensures.new refl)
