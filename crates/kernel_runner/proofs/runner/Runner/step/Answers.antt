use Rattle.std.proofs.Common.{◌≡◌, ℕ, ◌+◌, false, sym, ap, ◌∙◌, subst}
use Rattle.janus_meaning.specs.Writes.{IsWritten}
use Rattle.janus_machine.specs.CountedStore.{steps_in}
use Rattle.janus_machine.specs.Steps.{TakesSafeSteps, end_of}
use Rattle.janus_machine.specs.Counts.{steps_taken}
use Rattle.janus_machine.specs.declared.machine.End.{End}
use Rattle.kernel_machine.specs.StepsOfSlices.{steps_on}
use Rattle.kernel_runner.specs.Runner.{progress_at}
use Rattle.kernel_runner.proofs.Going.{in_effect, safe_on, unbroken_on, gone_on, counted_on}
use Rattle.kernel_runner.proofs.Running.{comes, told, one_taken}
use Rattle.kernel_runner.proofs.runner.Runner.step.Goals as goal

pub step-stepped-requires-clause-standing : goal.step-stepped-requires-clause-standing
step-stepped-requires-clause-standing g c = c.requires.inside.1.standing

pub step-stepped-requires-clause-safe : goal.step-stepped-requires-clause-safe
step-stepped-requires-clause-safe g c = safe_on c.args.self.now c.args.program.now c.requires.inside.0 1 c.requires.inside.1

pub returns-clause-runs : goal.returns-clause-runs
returns-clause-runs g c = λ at h.
    let r = c.args.self.now in
    let p = c.args.program.now in
    let now = c.step-stepped.ensures in
    let s = gone_on r p at c.step-stepped.new.counted c.step-stepped.new.cursor (steps_taken c.step-stepped.result) 1 h now.stands now.names now.agrees
    now.counts now.slice in
    comes _ p at (steps_taken c.step-stepped.result) 1 s c.progress.result (end_of c.step-stepped.result) c.count.result
    (c.progress.ensures ∙ ap (λ (e : End). progress_at e c.count.result) c.end.ensures) (one_taken c.step-stepped.result) c.count.ensures
    (now.end _ _ (in_effect r p at false h) h.agrees (unbroken_on r p at 1 h))

-- just the steps are told that were taken

pub returns-clause-written : goal.returns-clause-written
returns-clause-written g c =
    let r = c.args.self.now in
    let p = c.args.program.now in
    let at = c.requires.inside.0 in
    let h = c.requires.inside.1 in
    let now = c.step-stepped.ensures in
    let s = gone_on r p at c.step-stepped.new.counted c.step-stepped.new.cursor (steps_taken c.step-stepped.result) 1 h now.stands now.names now.agrees
    now.counts now.slice in
    let count = counted_on r.cursor.turned r.cursor.count c.count.result (steps_taken c.step-stepped.result) h.turned (c.count.ensures ∙ now.counts.count) in
    let same : steps_on r.cursor.count 1 c.progress.result ≡ (steps_taken c.step-stepped.result) = ap (steps_on r.cursor.count 1) (c.progress.ensures
    ∙ ap (λ (e : End). progress_at e c.count.result) c.end.ensures)
    ∙ told _ p at (steps_taken c.step-stepped.result) 1 s (end_of c.step-stepped.result) c.count.result r.cursor.count count
    (now.end _ _ (in_effect r p at false h) h.agrees (unbroken_on r p at 1 h)) in
    subst (λ (k : ℕ). IsWritten k r.counted.store.writes c.step-stepped.new.counted.store.writes) (sym same) now.written

pub returns-clause-counted : goal.returns-clause-counted
returns-clause-counted g c =
    let r = c.args.self.now in
    let p = c.args.program.now in
    let at = c.requires.inside.0 in
    let h = c.requires.inside.1 in
    let now = c.step-stepped.ensures in
    let s = gone_on r p at c.step-stepped.new.counted c.step-stepped.new.cursor (steps_taken c.step-stepped.result) 1 h now.stands now.names now.agrees
    now.counts now.slice in
    let count = counted_on r.cursor.turned r.cursor.count c.count.result (steps_taken c.step-stepped.result) h.turned (c.count.ensures ∙ now.counts.count) in
    let same : steps_on r.cursor.count 1 c.progress.result ≡ (steps_taken c.step-stepped.result) = ap (steps_on r.cursor.count 1) (c.progress.ensures
    ∙ ap (λ (e : End). progress_at e c.count.result) c.end.ensures)
    ∙ told _ p at (steps_taken c.step-stepped.result) 1 s (end_of c.step-stepped.result) c.count.result r.cursor.count count
    (now.end _ _ (in_effect r p at false h) h.agrees (unbroken_on r p at 1 h)) in
    now.counted ∙ ap (λ (k : ℕ). steps_in r.counted + k) (sym same)

pub returns-clause-came : goal.returns-clause-came
returns-clause-came g c =
    let r = c.args.self.now in
    let p = c.args.program.now in
    let at = c.requires.inside.0 in
    let h = c.requires.inside.1 in
    let now = c.step-stepped.ensures in
    let s = gone_on r p at c.step-stepped.new.counted c.step-stepped.new.cursor (steps_taken c.step-stepped.result) 1 h now.stands now.names now.agrees
    now.counts now.slice in
    let count = counted_on r.cursor.turned r.cursor.count c.count.result (steps_taken c.step-stepped.result) h.turned (c.count.ensures ∙ now.counts.count) in
    let same : steps_on r.cursor.count 1 c.progress.result ≡ (steps_taken c.step-stepped.result) = ap (steps_on r.cursor.count 1) (c.progress.ensures
    ∙ ap (λ (e : End). progress_at e c.count.result) c.end.ensures)
    ∙ told _ p at (steps_taken c.step-stepped.result) 1 s (end_of c.step-stepped.result) c.count.result r.cursor.count count
    (now.end _ _ (in_effect r p at false h) h.agrees (unbroken_on r p at 1 h)) in
    subst
    (λ (k : ℕ). TakesSafeSteps 1 k r.procedures p.book r.cursor r.counted.store c.step-stepped.new.cursor c.step-stepped.new.counted.store)
    (sym same) now.slice
