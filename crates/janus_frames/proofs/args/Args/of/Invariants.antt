use Rattle.std.proofs.Common.{◌≡◌, ◌<◌, ℕ, length, get_or}
use Rattle.janus_frames.proofs.args.Args.of.Given as goal

abbrev pub invariant-loop-i : goal.invariant-loop-i
invariant-loop-i l = record {
  long : length l.all ≡ 16;
  same : (k : ℕ) → k < l.i → get_or l.all k 0 ≡ get_or l.slots k 0;
}
