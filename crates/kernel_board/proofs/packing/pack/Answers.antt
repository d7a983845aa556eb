use Rattle.std.proofs.Common.{◌≡◌, List, ℕ, ap, ◌∙◌, subst}
use Rattle.std.specs.Global.{Vec}
use Rattle.zmtp_wire.specs.Message.{bodies_of, message_octets, IsWithinLimits, Spells, IsMessage}
use Rattle.zmtp_wire.proofs.OneMessage.{IsMessage-prop}
use Rattle.kernel_board.proofs.packing.pack.Goals as goal

spells_all : (octets : List ℕ) (frames slice : List (Vec ℕ)) → slice ≡ frames → octets ≡ message_octets (bodies_of slice) → IsWithinLimits (bodies_of slice)
    → Spells octets (bodies_of frames)
spells_all octets frames slice same spelled within = record {
  within = subst (λ (all : List (Vec ℕ)). IsWithinLimits (bodies_of all)) same within;
  spelled = spelled ∙ ap (λ (all : List (Vec ℕ)). message_octets (bodies_of all)) same;
}

-- the octets are those of these frames
pub invariant_of-message : goal.invariant_of-message
invariant_of-message c =
    let frames = c.args.frames.items in
    record {
      spells = (
        bodies_of frames,
        spells_all c.in-Ok.octets.items frames c.deref.result.now c.deref.ensures.value c.in-Ok.ensures.octets c.in-Ok.ensures.within,
      );
      first = c.topic_out-topic.ensures;
    }

-- and of no others
pub returns-in-Ok : goal.returns-in-Ok
returns-in-Ok c =
    let octets = c.in-Ok.octets.items in
    let frames = c.args.frames.items in
    let whole = spells_all octets frames c.deref.result.now c.deref.ensures.value c.in-Ok.ensures.octets c.in-Ok.ensures.within in
    ap (λ (message : IsMessage octets). message.0) (IsMessage-prop octets c.result-1.given.0 (bodies_of frames, whole))
