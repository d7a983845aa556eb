use Rattle.std.proofs.Common.{◌≡◌, ◌≤◌, ◌-◌, length}
use Rattle.zmtp_peer.specs.Intake.{front_of, Keeps, IsFresh, GrowsBy}
use Rattle.zmtp_peer.proofs.FrameLemmas.{Taken}
use Rattle.zmtp_peer.proofs.intake.take_frames.Given as goal

-- some frames are taken, and what they bring is added
abbrev pub invariant-loop-intake : goal.invariant-loop-intake
invariant-loop-intake l = record {
  taken : Taken l.terms l.fn.decoder.rest l.fn.intake l.decoder.rest l.intake;
  before : l.decoder.before ≡ l.fn.decoder.before;
  kept : Keeps (front_of l.fn.intake) (front_of l.intake);
  fresh : IsFresh l.intake;
  room : l.decoder.room ≡ l.fn.decoder.room;
  less : length l.decoder.rest.octets ≤ length l.fn.decoder.rest.octets;
  grows : GrowsBy (length l.fn.decoder.rest.octets - length l.decoder.rest.octets) l.fn.intake l.intake;
}

abbrev pub decreases-loop-intake : goal.decreases-loop-intake
decreases-loop-intake l = length l.decoder.rest.octets
