use Rattle.janus_frames.proofs.Following.{AreMissed}
use Rattle.janus_frames.proofs.frames.place_in.Given as goal

abbrev pub invariant-loop-i : goal.invariant-loop-i
invariant-loop-i l = AreMissed l.args l.i l.slot
