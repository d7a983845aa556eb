use Rattle.std.proofs.Common.{ℕ, List, [], map, false, sym, subst}
use Rattle.kernel_machine.specs.State.{State, new_state}
use Rattle.kernel_machine.specs.Minutes.{Entry}
use Rattle.kernel_machine.specs.LegalMinutes.{IsLegalMachine}
use Rattle.kernel_machine.proofs.Noted.{new_kept}
use Rattle.kernel_core.specs.Written.{entries_in, job_at, ArePosts}
use Rattle.kernel_core.proofs.Writing.{machine_from}
use Rattle.kernel_core.proofs.kernel.Kernel.new.Goals as goal

pub invariant_of-result : goal.invariant_of-result
invariant_of-result g c = record {
  places = c.new-3.ensures.kept;
  queue = subst (λ (places : List ℕ). ArePosts (entries_in c.new-3.result) places) (sym c.new-2.ensures.items) tt;
  legal =
      subst (λ (s : State). IsLegalMachine (machine_from s (map (job_at (entries_in c.new-3.result)) c.new-2.result.items) 0 (entries_in c.new-3.result) false))
      (sym c.in_ok-history.ensures.state)
      (subst (λ (es : List Entry). IsLegalMachine (machine_from new_state (map (job_at es) c.new-2.result.items) 0 es false)) (sym c.new-3.ensures.none)
      (subst (λ (places : List ℕ). IsLegalMachine (machine_from new_state (map (job_at []) places) 0 [] false)) (sym c.new-2.ensures.items) new_kept));
}
