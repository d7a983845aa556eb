use Rattle.std.proofs.Common.{◌≡◌, ℕ, ◌+◌, false, sym, ap, ◌∙◌, subst}
use Rattle.janus_meaning.specs.Writes.{IsWritten}
use Rattle.janus_machine.specs.CountedStore.{steps_in}
use Rattle.janus_machine.specs.Steps.{TakesSafeSteps}
use Rattle.kernel_machine.specs.StepsOfSlices.{steps_on}
use Rattle.kernel_runner.proofs.Going.{in_effect, safe_on, unbroken_on, gone_on, counted_on}
use Rattle.kernel_runner.proofs.Running.{comes, told}
use Rattle.kernel_runner.proofs.runner.Runner.run.Goals as goal

pub slice-sliced-requires-clause-standing : goal.slice-sliced-requires-clause-standing
slice-sliced-requires-clause-standing g c = c.requires.1.standing

pub slice-sliced-requires-clause-safe : goal.slice-sliced-requires-clause-safe
slice-sliced-requires-clause-safe g c = safe_on c.args.self.now c.args.program.now c.requires.0 c.args.m c.requires.1

pub returns-clause-runs : goal.returns-clause-runs
returns-clause-runs g c = λ at h.
    let r = c.args.self.now in
    let p = c.args.program.now in
    let now = c.slice-sliced.ensures in
    let s = gone_on r p at c.slice-sliced.new.counted c.slice-sliced.new.cursor c.slice-sliced.result.taken c.args.m h now.stands now.names now.agrees
    now.counts now.steps in
    comes _ p at c.slice-sliced.result.taken c.args.m s c.progress.result c.slice-sliced.result.end c.count.result c.progress.ensures now.taken c.count.ensures
    (now.end _ _ (in_effect r p at false h) h.agrees (unbroken_on r p at c.args.m h))

-- just the steps are told that were taken

pub returns-clause-written : goal.returns-clause-written
returns-clause-written g c =
    let r = c.args.self.now in
    let p = c.args.program.now in
    let at = c.requires.0 in
    let h = c.requires.1 in
    let now = c.slice-sliced.ensures in
    let s = gone_on r p at c.slice-sliced.new.counted c.slice-sliced.new.cursor c.slice-sliced.result.taken c.args.m h now.stands now.names now.agrees
    now.counts now.steps in
    let count = counted_on r.cursor.turned r.cursor.count c.count.result c.slice-sliced.result.taken h.turned (c.count.ensures ∙ now.counts.count) in
    let same : steps_on r.cursor.count c.args.m c.progress.result ≡ c.slice-sliced.result.taken = ap (steps_on r.cursor.count c.args.m) c.progress.ensures
    ∙ told _ p at c.slice-sliced.result.taken c.args.m s c.slice-sliced.result.end c.count.result r.cursor.count count
    (now.end _ _ (in_effect r p at false h) h.agrees (unbroken_on r p at c.args.m h)) in
    subst (λ (k : ℕ). IsWritten k r.counted.store.writes c.slice-sliced.new.counted.store.writes) (sym same) now.written

pub returns-clause-counted : goal.returns-clause-counted
returns-clause-counted g c =
    let r = c.args.self.now in
    let p = c.args.program.now in
    let at = c.requires.0 in
    let h = c.requires.1 in
    let now = c.slice-sliced.ensures in
    let s = gone_on r p at c.slice-sliced.new.counted c.slice-sliced.new.cursor c.slice-sliced.result.taken c.args.m h now.stands now.names now.agrees
    now.counts now.steps in
    let count = counted_on r.cursor.turned r.cursor.count c.count.result c.slice-sliced.result.taken h.turned (c.count.ensures ∙ now.counts.count) in
    let same : steps_on r.cursor.count c.args.m c.progress.result ≡ c.slice-sliced.result.taken = ap (steps_on r.cursor.count c.args.m) c.progress.ensures
    ∙ told _ p at c.slice-sliced.result.taken c.args.m s c.slice-sliced.result.end c.count.result r.cursor.count count
    (now.end _ _ (in_effect r p at false h) h.agrees (unbroken_on r p at c.args.m h)) in
    now.counted ∙ ap (λ (k : ℕ). steps_in r.counted + k) (sym same)

pub returns-clause-came : goal.returns-clause-came
returns-clause-came g c =
    let r = c.args.self.now in
    let p = c.args.program.now in
    let at = c.requires.0 in
    let h = c.requires.1 in
    let now = c.slice-sliced.ensures in
    let s = gone_on r p at c.slice-sliced.new.counted c.slice-sliced.new.cursor c.slice-sliced.result.taken c.args.m h now.stands now.names now.agrees
    now.counts now.steps in
    let count = counted_on r.cursor.turned r.cursor.count c.count.result c.slice-sliced.result.taken h.turned (c.count.ensures ∙ now.counts.count) in
    let same : steps_on r.cursor.count c.args.m c.progress.result ≡ c.slice-sliced.result.taken = ap (steps_on r.cursor.count c.args.m) c.progress.ensures
    ∙ told _ p at c.slice-sliced.result.taken c.args.m s c.slice-sliced.result.end c.count.result r.cursor.count count
    (now.end _ _ (in_effect r p at false h) h.agrees (unbroken_on r p at c.args.m h)) in
    subst
    (λ (k : ℕ). TakesSafeSteps c.args.m k r.procedures p.book r.cursor r.counted.store c.slice-sliced.new.cursor c.slice-sliced.new.counted.store)
    (sym same) now.steps
