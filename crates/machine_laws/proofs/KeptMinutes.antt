-- The minutes of each machine that a run reaches are legal.
use Rattle.std.proofs.Common.{List, [], ◌∷◌}
use Rattle.kernel_machine.specs.Runs.{Machine, Run}
use Rattle.kernel_machine.specs.LegalMinutes.{HasLegalMinutes}
use Rattle.machine_laws.specs.Theorems.{KeepsLegalMinutes}
use Rattle.kernel_machine.specs.declared.events.Event.{Event}
use Rattle.kernel_machine.specs.declared.events.Told.{Told}
use Rattle.kernel_machine.proofs.Noted.{known_at, step_known, new_known}

run_known : (old new : Machine) (events : List Event) (answers : List Told) → HasLegalMinutes old → Run old events answers new → HasLegalMinutes new
run_known old new [] [] k r = known_at old new r k
run_known old new [] (t ∷ answers) k r = absurd r
run_known old new (e ∷ events) [] k r = absurd r
run_known old new (e ∷ events) (t ∷ answers) k r = run_known r.0 new events answers (step_known old e t r.0 k r.1) r.2

pub keeps_legal_minutes : KeepsLegalMinutes
keeps_legal_minutes = (new_known, run_known)
