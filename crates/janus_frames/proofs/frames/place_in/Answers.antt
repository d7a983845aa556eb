use Rattle.std.proofs.Common.{◌+◌, sym, arith}
use Rattle.janus_frames.proofs.Following.{met-first, missed-none, missed-more, missed-all}
use Rattle.janus_frames.proofs.frames.place_in.Goals as goal

pub loop-i-init : goal.loop-i-init
loop-i-init c = missed-none c.args.args.now c.args.slot

pub loop-i-preserved : goal.loop-i-preserved
loop-i-preserved c =
    missed-more c.args.args.now c.loop-i.i (c.loop-i.i + 1) c.args.slot (omega arith) (omega arith) c.loop-i.invariant c.if-args-i.false

pub returns-then-args-i-clause-some : goal.returns-then-args-i-clause-some
returns-then-args-i-clause-some c =
    let r = met-first c.args.args.now c.loop-i.i c.args.slot c.loop-i.invariant (omega arith) c.if-args-i.true in (r.0, sym r.1)

pub returns-clause-none : goal.returns-clause-none
returns-clause-none c = λ e. missed-all c.args.args.now c.loop-i.i c.args.slot (omega arith) c.loop-i.invariant
