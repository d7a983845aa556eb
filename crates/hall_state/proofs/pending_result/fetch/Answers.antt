use Rattle.std.proofs.Common.{◌≡◌, ℕ, ◌-◌, List, Some, IfSome, IfNone, get_or, subst, arith}
use Rattle.kernel_audit.specs.Minutes.{Entry}
use Rattle.kernel_audit.specs.done.Done.{Done}
use Rattle.hall_state.specs.LastEnds.{StandsAt, IsEndAt}
use Rattle.hall_state.proofs.PendingResults.{taken, told, untold, unended}
use Rattle.hall_state.proofs.pending_result.fetch.Goals as goal

pub returns-clause-told : goal.returns-clause-told
returns-clause-told g c =
    let e = c.done.ensures in
    let minutes = c.args.kernel.now.machine.minutes in
    let es = c.args.pending_results.now in
    let i = c.in_ok-index.index in
    let x = c.index-pending_results-index.result in
    let at : i ≡ c.args.number - 1 = omega (arith, c.in_ok-index.ensures.some) in
    let stands = subst (λ (l : List Entry). IfSome c.done.result (λ (d : Done). (place : ℕ) × ((get_or es i x).ended ≡ Some place) × StandsAt l place d))
    c.minutes.ensures.entries e.there in
    told minutes es i c.args.number x c.done.new.self c.done.result c.if-index-pending_results.false at
    record { ended = e.ended; wishes = e.wishes }
    (taken minutes (get_or es i x) c.done.new.self c.done.result stands e.shown e.values e.none_shown e.no_values e.told)

pub returns-clause-none : goal.returns-clause-none
returns-clause-none g c =
    untold c.args.pending_results.now c.in_ok-index.index c.index-pending_results-index.result c.done.new.self c.done.result c.done.ensures.none

pub returns-clause-unended : goal.returns-clause-unended
returns-clause-unended g c =
    let es = c.args.pending_results.now in
    let i = c.in_ok-index.index in
    let x = c.index-pending_results-index.result in
    let n = c.args.number in
    let at : i ≡ n - 1 = omega (arith, c.in_ok-index.ensures.some) in
    unended c.args.kernel.now.machine.minutes es i n x c.done.result at
    (subst (λ (l : List Entry). IfNone c.done.result ((place : ℕ) → (get_or es i x).ended ≡ Some place → IsEndAt l place n → ⊥)) c.minutes.ensures.entries
    c.done.ensures.unended)
