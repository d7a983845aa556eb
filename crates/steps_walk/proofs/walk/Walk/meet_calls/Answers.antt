use Rattle.std.proofs.Common.{length, ap, sym, subst, arith}
use Rattle.janus_machine.specs.Cursor.{calls_of}
use Rattle.kernel_runner.specs.declared.runner.Runner.{Runner}
use Rattle.steps_walk.specs.Standing.{HasBody}
use Rattle.steps_walk.proofs.Moving.{met_both}
use Rattle.steps_walk.proofs.MetBodies.{all_met, met_next, call_runs}
use Rattle.steps_walk.proofs.walk.Walk.meet_calls.Goals as goal

pub returns-in_err-meet-clause-kept : goal.returns-in_err-meet-clause-kept
returns-in_err-meet-clause-kept g c = met_both c.args.self.now c.loop-i.self c.meet.new.self c.loop-i.invariant.kept c.meet.ensures.kept

pub loop-i-preserved : goal.loop-i-preserved
loop-i-preserved g c = record {
  kept = met_both c.args.self.now c.loop-i.self c.meet.new.self c.loop-i.invariant.kept c.meet.ensures.kept;
  met = met_next c.loop-i.self c.meet.new.self c.loop-i.i c.open_call-number.result c.meet.ensures.kept.runner c.open_call-number.ensures c.loop-i.invariant.met
      c.meet.ensures.more
      (c.in_ok-meet.ensures.met
      (subst (HasBody c.loop-i.self) (sym c.open_call-number.ensures.procedure)
      (call_runs c.loop-i.self c.loop-i.invariant.kept.walks c.loop-i.i c.open_call-number.ensures.call c.open_call-number.ensures.there)));
}

pub returns-clause-met : goal.returns-clause-met
returns-clause-met g c =
    let w = c.loop-i.self in
    let same = ap (λ (r : Runner g.row.L.Denot). length (calls_of r.cursor)) c.loop-i.invariant.kept.runner in
    let many = c.open_calls-i-end.ensures in
    let done = c.loop-i-test.false in
    all_met w c.loop-i.i (omega (arith, same, many, done)) c.loop-i.invariant.met
