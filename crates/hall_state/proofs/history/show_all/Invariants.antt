use Rattle.std.proofs.Common.{◌≡◌, ◌++◌, All, map, length}
use Rattle.std.specs.Vec.Iter.{into_iter_items, into_iter_len}
use mathlib.Core.List.{IsPrefix}
use Rattle.kernel_audit.specs.Passes.{PassOf}
use Rattle.kernel_audit.specs.Written.{entry_of}
use Rattle.hall_state.proofs.history.show_all.Given as goal

-- what those have seen that were shown all is a beginning of it, and the history and the notes are as they were
abbrev pub invariant-loop-pass : goal.invariant-loop-pass
invariant-loop-pass g l =
    (l.yielded ++ into_iter_items l.pass-iterator ≡ into_iter_items l.initial.pass-iterator)
    × All (λ (p : PassOf). IsPrefix p.front (map entry_of l.initial.history)) l.yielded
    × All (λ (p : PassOf). IsPrefix p.notes l.initial.notes) l.yielded
    × (into_iter_len l.pass-iterator ≡ length (into_iter_items l.pass-iterator))
    × (l.history ≡ l.initial.history)
    × (l.notes ≡ l.initial.notes)
