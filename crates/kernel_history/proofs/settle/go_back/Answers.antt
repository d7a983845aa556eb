use Rattle.std.proofs.Common.{◌≡◌, ℕ, ◌+◌, ◌-◌, true, refl, sym, ap, ◌∙◌, subst}
use Rattle.kernel_loader.specs.Procedures.{kept_in}
use Rattle.janus_meaning.specs.Writes.{IsWritten}
use Rattle.kernel_loader.specs.procedures.Procedures.{Procedures}
use Rattle.kernel_machine.specs.StepsOfSlices.{steps_back}
use Rattle.kernel_history.specs.Standing.{place_in}
use Rattle.kernel_history.specs.Kept.{Kept}
use Rattle.kernel_loader.specs.Runner.{Stands, writes_of, steps_of, count_of}
use Rattle.kernel_machine.specs.declared.heading.Heading.TheVariants.{GoesBack}
use Rattle.kernel_history.specs.declared.job.Open.TheVariants.{Inside}
use Rattle.kernel_loader.proofs.Counting.{written_still, came_still}
use Rattle.kernel_loader.proofs.Running.{whole_at_start}
use Rattle.kernel_history.proofs.Standing.{stands_with, inside_with, kept_at, kept_idle}
use Rattle.kernel_machine.specs.declared.outcome.Outcome.{Outcome}
use Rattle.kernel_history.specs.Fields.{work_of}
use Rattle.kernel_history.specs.Came.{is_done}
use Rattle.kernel_history.proofs.Done.{turned_not_done}
use Rattle.kernel_history.proofs.settle.go_back.Goals as goal

pub back-requires : goal.back-requires
back-requires g c =
    inside_with c.args.tree.now c.args.entered.now.work c.args.entered.now.count (GoesBack c.args.why) c.args.runner.now c.program_of.result.now c.requires
    c.program_of.ensures

pub settle_back-requires-clause-kept : goal.settle_back-requires-clause-kept
settle_back-requires-clause-kept g c =
    let e : c.args.entered.now.count - c.args.m ≡ 0 = sym c.saturating_sub-left.ensures ∙ c.if-left-eq0.true in
    let stands = c.back.ensures.goes
    _ (stands_with c.args.tree.now c.args.entered.now.work c.args.entered.now.count true c.args.runner.now c.program_of.result.now c.program_of.ensures
    c.requires.stands) in (
      c.args.why,
      subst (λ (n : ℕ). Kept c.args.tree.now c.back.new.self (Inside (record { work = c.args.entered.now.work; count = n; heading = GoesBack c.args.why }))) e
          (kept_at c.args.tree.now c.args.entered.now.work c.args.entered.now.count (c.args.entered.now.count - c.args.m) (GoesBack c.args.why)
          (GoesBack c.args.why) c.args.runner.now c.back.new.self c.program_of.result.now c.requires
          c.back.ensures.entries
          (ap (λ (t : Procedures). kept_in t) c.back.ensures.procedures) c.program_of.ensures stands),
    )

pub settle_back-requires-clause-whole : goal.settle_back-requires-clause-whole
settle_back-requires-clause-whole g c =
    let e : c.args.entered.now.count - c.args.m ≡ 0 = sym c.saturating_sub-left.ensures ∙ c.if-left-eq0.true in
    let work = c.args.entered.now.work in
    let tree = c.args.tree.now in
    let p = c.program_of.result.now in
    let stands = c.back.ensures.goes _ (stands_with tree work c.args.entered.now.count true c.args.runner.now p c.program_of.ensures c.requires.stands) in
    whole_at_start c.back.new.self p (place_in tree work p 0) refl
    (subst (λ (n : ℕ). Stands c.back.new.self p (place_in tree work p n) true) e stands)

pub returns-then-left-eq0-clause-kept : goal.returns-then-left-eq0-clause-kept
returns-then-left-eq0-clause-kept g c =
    kept_idle c.args.tree.now _ c.args.runner.now c.settle_back.new.runner c.requires c.settle_back.ensures.ready c.settle_back.ensures.no_other
    c.settle_back.ensures.no_name c.settle_back.ensures.is.1 c.settle_back.ensures.is.0

pub returns-else-left-eq0-clause-kept : goal.returns-else-left-eq0-clause-kept
returns-else-left-eq0-clause-kept g c =
    let work = c.args.entered.now.work in
    let tree = c.args.tree.now in
    let p = c.program_of.result.now in
    let stands = c.back.ensures.goes _ (stands_with tree work c.args.entered.now.count true c.args.runner.now p c.program_of.ensures c.requires.stands) in
    kept_at tree work c.args.entered.now.count c.saturating_sub-left.result (GoesBack c.args.why) (GoesBack c.args.why)
    c.args.runner.now c.back.new.self p c.requires c.back.ensures.entries
    (ap (λ (t : Procedures). kept_in t) c.back.ensures.procedures) c.program_of.ensures
    (subst (λ (n : ℕ). Stands c.back.new.self p (place_in tree work p n) true) (sym c.saturating_sub-left.ensures) stands)

pub returns-then-left-eq0-clause-written : goal.returns-then-left-eq0-clause-written
returns-then-left-eq0-clause-written g c =
    let same =
    (stands_with c.args.tree.now c.args.entered.now.work c.args.entered.now.count true c.args.runner.now c.program_of.result.now c.program_of.ensures
    c.requires.stands).counted in
    written_still _ _ c.back.new.self c.settle_back.new.runner c.settle_back.ensures.counts
    (subst (λ (n : ℕ). IsWritten (steps_back n c.args.m) (writes_of c.args.runner.now) (writes_of c.back.new.self)) same c.back.ensures.written)

pub returns-else-left-eq0-clause-written : goal.returns-else-left-eq0-clause-written
returns-else-left-eq0-clause-written g c =
    let same =
    (stands_with c.args.tree.now c.args.entered.now.work c.args.entered.now.count true c.args.runner.now c.program_of.result.now c.program_of.ensures
    c.requires.stands).counted in
    subst (λ (n : ℕ). IsWritten (steps_back n c.args.m) (writes_of c.args.runner.now) (writes_of c.back.new.self)) same c.back.ensures.written

pub returns-then-left-eq0-clause-counted : goal.returns-then-left-eq0-clause-counted
returns-then-left-eq0-clause-counted g c =
    let same =
    (stands_with c.args.tree.now c.args.entered.now.work c.args.entered.now.count true c.args.runner.now c.program_of.result.now c.program_of.ensures
    c.requires.stands).counted in
    c.settle_back.ensures.counts.steps ∙ c.back.ensures.counted ∙ ap (λ (n : ℕ). steps_of c.args.runner.now + steps_back n c.args.m) same

pub returns-else-left-eq0-clause-counted : goal.returns-else-left-eq0-clause-counted
returns-else-left-eq0-clause-counted g c =
    let same =
    (stands_with c.args.tree.now c.args.entered.now.work c.args.entered.now.count true c.args.runner.now c.program_of.result.now c.program_of.ensures
    c.requires.stands).counted in
    c.back.ensures.counted ∙ ap (λ (n : ℕ). steps_of c.args.runner.now + steps_back n c.args.m) same

pub returns-then-left-eq0-clause-came : goal.returns-then-left-eq0-clause-came
returns-then-left-eq0-clause-came g c = record {
  program = c.program_of.result.now;
  of_work = c.program_of.ensures;
  steps = steps_back (count_of c.args.runner.now) c.args.m;
  came = came_still c.program_of.result.now c.args.m _ c.args.runner.now c.back.new.self c.settle_back.new.runner c.back.ensures.came
      c.settle_back.ensures.cursor;
  counted = c.settle_back.ensures.counts.steps ∙ c.back.ensures.counted;
}

pub returns-else-left-eq0-clause-came : goal.returns-else-left-eq0-clause-came
returns-else-left-eq0-clause-came g c = record {
  program = c.program_of.result.now;
  of_work = c.program_of.ensures;
  steps = steps_back (count_of c.args.runner.now) c.args.m;
  came = came_still c.program_of.result.now c.args.m _ c.args.runner.now c.back.new.self c.back.new.self c.back.ensures.came refl;
  counted = c.back.ensures.counted;
}

pub returns-then-left-eq0-clause-back : goal.returns-then-left-eq0-clause-back
returns-then-left-eq0-clause-back g c =
    ap (λ (o : Outcome). is_done o) c.turned-outcome.ensures ∙ turned_not_done (work_of c.args.entered.now.work) c.args.why
