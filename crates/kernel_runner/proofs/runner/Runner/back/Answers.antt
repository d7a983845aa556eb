use Rattle.std.proofs.Common.{◌≡◌, ℕ, ◌+◌, ◌-◌, ap, ◌∙◌, sym, subst}
use Rattle.janus_meaning.specs.Writes.{IsWritten}
use Rattle.janus_machine.specs.CountedStore.{steps_in}
use Rattle.janus_machine.specs.Steps.{TakesSafeSteps}
use Rattle.kernel_runner.proofs.Going.{safe_back, back_cut, back_taken}
use Rattle.kernel_runner.proofs.runner.Runner.back.Given as given
use Rattle.kernel_runner.proofs.runner.Runner.back.Goals as goal

pub slice-sliced-requires-clause-standing : goal.slice-sliced-requires-clause-standing
slice-sliced-requires-clause-standing g c = c.requires.1.standing

pub slice-sliced-requires-clause-safe : goal.slice-sliced-requires-clause-safe
slice-sliced-requires-clause-safe g c = safe_back c.args.self.now c.args.program.now c.requires.0 c.args.m c.requires.1

pub returns-clause-goes : goal.returns-clause-goes
returns-clause-goes g c = λ at h.
    back_cut c.args.self.now c.args.program.now at c.slice-sliced.new.counted c.slice-sliced.new.cursor c.slice-sliced.result.taken c.args.m
    c.slice-sliced.result.end h
    c.slice-sliced.ensures.stands c.slice-sliced.ensures.names c.slice-sliced.ensures.agrees c.slice-sliced.ensures.taken c.slice-sliced.ensures.counts
    c.slice-sliced.ensures.steps c.slice-sliced.ensures.end

-- so many steps were taken
taken_all : (g : given.Over) (c : goal.After-slice-sliced g) → c.slice-sliced.result.taken
    ≡ c.args.self.now.cursor.count - (c.args.self.now.cursor.count - c.args.m)
taken_all g c =
    let h = c.requires.1 in
    back_taken c.args.self.now c.args.program.now c.requires.0 c.slice-sliced.new.counted c.slice-sliced.new.cursor c.slice-sliced.result.taken c.args.m
    c.slice-sliced.result.end h
    c.slice-sliced.ensures.stands c.slice-sliced.ensures.names c.slice-sliced.ensures.agrees c.slice-sliced.ensures.taken c.slice-sliced.ensures.counts
    c.slice-sliced.ensures.steps c.slice-sliced.ensures.end
    ∙ ap (λ (n : ℕ). n - (n - c.args.m)) (sym h.counted)

pub returns-clause-written : goal.returns-clause-written
returns-clause-written g c =
    subst (λ (k : ℕ). IsWritten k c.args.self.now.counted.store.writes c.slice-sliced.new.counted.store.writes) (taken_all g c)
    c.slice-sliced.ensures.written

pub returns-clause-counted : goal.returns-clause-counted
returns-clause-counted g c = c.slice-sliced.ensures.counted ∙ ap (λ (k : ℕ). steps_in c.args.self.now.counted + k) (taken_all g c)

pub returns-clause-came : goal.returns-clause-came
returns-clause-came g c =
    let r = c.args.self.now in
    subst
    (λ (k : ℕ). TakesSafeSteps c.args.m k r.procedures c.args.program.now.book r.cursor r.counted.store c.slice-sliced.new.cursor
    c.slice-sliced.new.counted.store) (taken_all g c) c.slice-sliced.ensures.steps
