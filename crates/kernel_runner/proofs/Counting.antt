-- What a runner counts.
use Rattle.std.proofs.Common.{◌≡◌, ℕ, sym, ap, subst}
use Rattle.janus_meaning.specs.Writes.{IsWritten}
use Rattle.janus_machine.specs.StoreState.{StoreState}
use Rattle.janus_machine.specs.CountedStore.{steps_in}
use Rattle.janus_machine.specs.declared.counted_store.CountedStore.{CountedStore}
use Rattle.janus_machine.specs.Steps.{TakesSafeSteps}
use Rattle.janus_machine.specs.declared.cursor.Cursor.{Cursor}
use Rattle.kernel_runner.specs.Runner.{KeepsCounts, CameBy, CursorCameBy, writes_of}
use Rattle.kernel_runner.specs.declared.program.Program.{Program}
use Rattle.kernel_runner.specs.declared.runner.Runner.{Runner}

-- where the counted store stays, so does the store
pub same_store : {L : Type 0} (old new : Runner L) → new.counted ≡ old.counted → new.counted.store ≡ old.counted.store
same_store {L} old new e = ap (λ (s : CountedStore L). s.store) e

-- and nothing was counted
pub same_counts : {L : Type 0} (old new : Runner L) → new.counted ≡ old.counted → KeepsCounts old new
same_counts {L} old new e = record { writes = ap (λ (s : CountedStore L). s.store.writes) e; steps = ap (λ (s : CountedStore L). steps_in s) e }

-- what was written before what counts nothing
pub written_still : {L : Type 0} (k old : ℕ) (mid new : Runner L) → KeepsCounts mid new → IsWritten k old (writes_of mid) → IsWritten k old (writes_of new)
written_still k old mid new same w = subst (λ (n : ℕ). IsWritten k old n) (sym same.writes) w

-- where the cursor came by steps, it did so as long as it stays, whatever becomes of the store
pub cursor_still : {L : Type 0} (program : Program) (m n : ℕ) (old mid new : Runner L) → CursorCameBy program m n old mid → new.cursor ≡ mid.cursor →
    CursorCameBy program m n old new
cursor_still program m n old mid new came same = (
  came.0,
  subst (λ (x : Cursor). TakesSafeSteps m n old.procedures program.book old.cursor old.counted.store x came.0) (sym same) came.1,
)

pub came_still : {L : Type 0} (program : Program) (m n : ℕ) (old mid new : Runner L) → CameBy program m n old mid → new.cursor ≡ mid.cursor →
    CursorCameBy program m n old new
came_still program m n old mid new came same = cursor_still program m n old mid new (mid.counted.store, came) same
