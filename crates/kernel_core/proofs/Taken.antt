-- What a begin tells that takes a job, and what is open behind it.
use Rattle.std.proofs.Common.{◌≡◌, ℕ, ◌+◌, List, zero, suc, Bool, true, false, ap, sym, subst, ⊎_elim}
use Rattle.kernel_machine.specs.State.{Past, State, Job, Entered, Idle, Border, Inside}
use Rattle.kernel_machine.specs.Begins.{travel_to, Enters, Departs, TakesCell, TakesMove, TakesGoto}
use Rattle.kernel_machine.specs.Runs.{Takes, TakesUnless}
use Rattle.kernel_machine.specs.Request.{Request, RunCell, Undo, Redo, Goto}
use Rattle.kernel_machine.specs.Slices.{cells}
use Rattle.kernel_machine.specs.declared.travel.Aim.TheVariants as aim
use Rattle.kernel_machine.specs.declared.travel.Travel.{Travel}
use Rattle.kernel_machine.specs.declared.outcome.Begun.{Begun}
use Rattle.kernel_machine.specs.declared.outcome.Begun.TheVariants as begun

abbrev pub IsInside : Job → Type 0
IsInside job = (e : Entered) × (job ≡ Inside e)

abbrev pub IsBorder : Job → Type 0
IsBorder job = (t : Travel) × (job ≡ Border t)

-- what the answer of a begin tells that takes a job
abbrev pub Took : Begun → Job → Type 0
Took begun.Nothing job = ⊥
Took begun.Going job = IsInside job
Took (begun.Ended o) job = job ≡ Idle

enters_took : (s : Past) (t : Travel) (told : Begun) (new : State) → Enters s t told new → Took told new.job
enters_took s t told new h =
    ⊎_elim
    (λ h. subst (λ b. Took b new.job) (sym h.0) (_, ap (λ x. x.job) h.1))
    (λ h. subst (λ b. Took b new.job) (sym h.0) (ap (λ x. x.job) h.2))
    h

cell_took : (s : Past) (text : List ℕ) (full : Bool) (told : Begun) (new : State) → TakesCell s text full told new → Took told new.job
cell_took s text true told new h = subst (λ b. Took b new.job) (sym h.0) (ap (λ x. x.job) h.1)
cell_took s text false told new h =
    ⊎_elim
    (λ h. subst (λ b. Took b new.job) (sym h.2) (_, ap (λ x. x.job) h.3))
    (λ h. subst (λ b. Took b new.job) (sym h.2) (ap (λ x. x.job) h.3))
    h

departs_took : (left : ℕ) (s : Past) (t : Travel) (told : Begun) (new : State) → Departs left s t told new → Took told new.job
departs_took zero s t told new h = subst (λ b. Took b new.job) (sym h.0) (ap (λ x. x.job) h.1)
departs_took (suc left) s t told new h = enters_took s t told new h

move_took : (s : Past) (t : Travel) (possible : Bool) (told : Begun) (new : State) → TakesMove s t possible told new → Took told new.job
move_took s t false told new h = subst (λ b. Took b new.job) (sym h.0) (ap (λ x. x.job) h.1)
move_took s t true told new h = departs_took (cells t) s t told new h

goto_took : (s : Past) (n : ℕ) (known : Bool) (told : Begun) (new : State) → TakesGoto s n known told new → Took told new.job
goto_took s n false told new h = subst (λ b. Took b new.job) (sym h.0) (ap (λ x. x.job) h.1)
goto_took s n true told new h = departs_took (h.0 + h.1) s (travel_to (aim.Goto n) h.0 h.1) told new h.3

takes_took : (s : Past) (r : Request) (told : Begun) (new : State) → Takes s r told new → Took told new.job
takes_took s (RunCell text silent store) told new h = cell_took s text _ told new h
takes_took s (Undo k) told new h = move_took s (travel_to aim.Undo k 0) _ told new h
takes_took s (Redo k) told new h = move_took s (travel_to aim.Redo 0 k) _ told new h
takes_took s (Goto n) told new h = goto_took s n _ told new h

pub taken_took : (closing : Bool) (s : Past) (r : Request) (told : Begun) (new : State) → TakesUnless closing s r told new → Took told new.job
taken_took false s r told new h = takes_took s r told new h
taken_took true s r told new h = subst (λ b. Took b new.job) (sym h.0) (ap (λ x. x.job) h.1)
