use Rattle.std.proofs.Common.{◌≡◌, ◌<◌, ℕ, drop, ◌^◌}
use Rattle.std.specs.Prelude.{reverse}
use Rattle.janus_meaning.specs.Store.{Val}
use Rattle.janus_frames.specs.Cells.{from}
use Rattle.janus_frames.specs.Shown.{through}
use Rattle.janus_frames.proofs.frames.place_shown.Given as goal

abbrev pub invariant-loop-i : goal.invariant-loop-i
invariant-loop-i l = record {
  low : l.slot < 2 ^ 63;
  value : (v : ℕ → Val) → through v (from v l.base) (reverse l.calls) l.k ≡ through v (from v l.base) (reverse (drop l.i l.calls)) l.slot;
}
