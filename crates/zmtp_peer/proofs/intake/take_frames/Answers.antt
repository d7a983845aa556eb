use Rattle.std.proofs.Common.{◌≡◌, ◌∙◌, ◌<◌, ◌-◌, length, subst, sym, arith}
use Rattle.zmtp_wire.specs.Frame.{frame_of}
use Rattle.zmtp_wire.specs.Decoding.{Decoding}
use Rattle.zmtp_peer.specs.declared.intake.Stage.{Stage}
use Rattle.zmtp_peer.specs.Events.{bodies}
use Rattle.zmtp_peer.specs.Intake.{front_of, state_at, state_of, IsRefusal, TakesFrames}
use Rattle.zmtp_peer.proofs.FrameLemmas.{taken-more, taken-refused, taken-partial, going-on, keeps-then, takes-shorter}
use Rattle.zmtp_peer.proofs.RoomLemmas.{grows-more, grows-within}
use Rattle.zmtp_peer.proofs.intake.take_frames.Goals as goal

pub loop-intake-preserved : goal.loop-intake-preserved
loop-intake-preserved c =
    let so_far = c.loop-intake.invariant in
    let first = length c.args.decoder.now.rest.octets in
    let before = length c.loop-intake.decoder.rest.octets in
    let now = length c.next.new.self.rest.octets in
    let shorter : now < before =
    takes-shorter c.loop-intake.decoder.rest (frame_of c.in-Ok-Some.frame) c.next.new.self.rest
    (rw c.in-Ok-Some.field-0-is at c.in-Ok-Some.ensures.frame) in
    record {
      taken = taken-more c.args.terms c.args.decoder.now.rest c.args.intake.now c.loop-intake.decoder.rest c.next.new.self.rest c.loop-intake.intake
          c.take_frame.new.intake (frame_of c.in-Ok-Some.frame) so_far.taken
          (rw c.in-Ok-Some.field-0-is at c.in-Ok-Some.ensures.frame) c.in_ok-take_frame-in-Ok-Some.ensures.state c.in_ok-take_frame-in-Ok-Some.ensures.told;
      before = c.next.ensures.before ∙ so_far.before;
      kept = keeps-then (front_of c.args.intake.now) (front_of c.loop-intake.intake) (front_of c.take_frame.new.intake) so_far.kept c.take_frame.ensures.kept;
      fresh = c.take_frame.ensures.fresh;
      room = c.next.ensures.room ∙ so_far.room;
      less = omega (arith, so_far.less, shorter);
      grows = grows-more (first - before) (first - now) c.args.intake.now c.loop-intake.intake c.take_frame.new.intake so_far.grows
          c.in_ok-take_frame-in-Ok-Some.ensures.grows
          (omega (arith, so_far.less, shorter));
    }

pub returns-in-Refused : goal.returns-in-Refused
returns-in-Refused c =
    let so_far = c.loop-intake.invariant in
    let intake = c.loop-intake.intake in
    let first = length c.args.decoder.now.rest.octets in
    let refused : IsRefusal (state_of intake) = subst (λ (at : Stage). IsRefusal (state_at at (bodies intake.held.items))) (sym c.in-Refused.is) tt in
    record {
      taken = taken-refused c.args.terms c.args.decoder.now.rest c.args.intake.now c.loop-intake.decoder.rest intake so_far.taken refused;
      before = so_far.before;
      room = so_far.room;
      kept = so_far.kept;
      grows = grows-within (first - length c.loop-intake.decoder.rest.octets) first c.args.intake.now intake so_far.grows (omega arith);
      fresh = so_far.fresh;
    }

pub returns-in-Ok-None : goal.returns-in-Ok-None
returns-in-Ok-None c =
    let so_far = c.loop-intake.invariant in
    let intake = c.loop-intake.intake in
    let first = length c.args.decoder.now.rest.octets in
    let same : c.next.new.self ≡ c.loop-intake.decoder = rw c.in-Ok-None.field-0-is at c.in-Ok-None.ensures.none in
    let going = going-on intake.stage (bodies intake.held.items) c.in_default.not-Refused in
    let taken = taken-partial c.args.terms c.args.decoder.now.rest c.args.intake.now c.loop-intake.decoder.rest intake so_far.taken
    (rw c.in-Ok-None.field-0-is at c.in-Ok-None.ensures.partial) going in
    record {
      taken = subst (λ (d : Decoding). TakesFrames c.args.terms c.args.decoder.now.rest c.args.intake.now d.rest intake) (sym same) taken;
      before = c.next.ensures.before ∙ so_far.before;
      room = c.next.ensures.room ∙ so_far.room;
      kept = so_far.kept;
      grows = grows-within (first - length c.loop-intake.decoder.rest.octets) first c.args.intake.now intake so_far.grows (omega arith);
      fresh = so_far.fresh;
    }
