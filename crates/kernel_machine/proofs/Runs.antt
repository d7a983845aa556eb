-- Runs of the machine.
use Rattle.std.proofs.Common.{List, [], ◌∷◌, ◌++◌, refl, subst}
use Rattle.kernel_machine.specs.Runs.{Machine, Step, Run, Seen}
use Rattle.kernel_machine.specs.StepsOfSlices.{WritesOnEvent, StepsOnEvent, WritesOnRun}
use Rattle.kernel_machine.specs.declared.events.Event.{Event}
use Rattle.kernel_machine.specs.declared.events.Told.{Told}

-- a run goes on by one step
pub run_more : (old mid new : Machine) (events : List Event) (answers : List Told) (e : Event) (t : Told) →
    Run old events answers mid → Step mid e t new → Run old (events ++ e ∷ []) (answers ++ t ∷ []) new
run_more old mid new [] [] e t r s = (new, subst (λ (m : Machine). Step m e t new) r s, refl)
run_more old mid new [] (u ∷ answers) e t r s = absurd r
run_more old mid new (d ∷ events) [] e t r s = absurd r
run_more old mid new (d ∷ events) (u ∷ answers) e t r s = (r.0, r.1, run_more r.0 mid new events answers e t r.2 s)

-- and so do its writes and its steps
pub writes_more : (old mid new : Seen) (events : List Event) (answers : List Told) (e : Event) (t : Told) →
    WritesOnRun old events answers mid → Step mid.machine e t new.machine → WritesOnEvent mid.machine e mid.writes new.writes →
    StepsOnEvent mid.machine e mid.steps new.steps → WritesOnRun old (events ++ e ∷ []) (answers ++ t ∷ []) new
writes_more old mid new [] [] e t r s w n = (
  new,
  subst (λ (k : Seen). Step k.machine e t new.machine) r s,
  subst (λ (k : Seen). WritesOnEvent k.machine e k.writes new.writes) r w,
  subst (λ (k : Seen). StepsOnEvent k.machine e k.steps new.steps) r n,
  refl,
)
writes_more old mid new [] (u ∷ answers) e t r s w n = absurd r
writes_more old mid new (d ∷ events) [] e t r s w n = absurd r
writes_more old mid new (d ∷ events) (u ∷ answers) e t r s w n = (r.0, r.1, r.2, r.3, writes_more r.0 mid new events answers e t r.4 s w n)
