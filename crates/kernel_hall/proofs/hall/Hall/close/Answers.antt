use Rattle.std.proofs.Common.{◌≡◌, List, Result, Ok, Err, IfOk, All, sym, subst}
use mathlib.Core.List.{IsPrefix}
use Rattle.hall_state.specs.Runs.{Machine}
use Rattle.hall_state.specs.Passes.{PassOf}
use Rattle.kernel_hall.proofs.hall.Hall.close.Goals as goal

-- what was seen is a beginning of the minutes that are given
of_given : {F : Type 0} (r : Result Machine F) (k : Machine) (passes : List PassOf) → IfOk r (λ m. m ≡ k)
    → All (λ (p : PassOf). IsPrefix p.front k.minutes) passes → IfOk r (λ m. All (λ (p : PassOf). IsPrefix p.front m.minutes) passes)
of_given (Ok m) k passes is fronts = subst (λ (x : Machine). All (λ (p : PassOf). IsPrefix p.front x.minutes) passes) (sym is) fronts
of_given (Err fault) k passes is fronts = tt

pub returns-clause-fronts : goal.returns-clause-fronts
returns-clause-fronts g c = of_given c.close.result _ c.args.passes.items c.close.ensures.minutes c.close.ensures.fronts

pub returns-clause-noted : goal.returns-clause-noted
returns-clause-noted g c = (c.into_inner.result.notes, c.close.ensures.notes)
