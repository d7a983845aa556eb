use Rattle.std.proofs.Common.{ap, refl}
use Rattle.zmtp_wire.specs.Decoding.{Decoding}
use Rattle.zmtp_wire.proofs.Streams.{partial_or_frame, fault_or_partial}
use Rattle.zmtp_wire.proofs.Taking.{fault_at, frame_at, partial_at}
use Rattle.zmtp_wire.proofs.decoder.Decoder.is_partial.Goals as goal

pub returns-in-Ok-None : goal.returns-in-Ok-None
returns-in-Ok-None c =
    let at = c.self.inside.position in
    let partial = rw c.in-Ok-None.field-0-is at c.in-Ok-None.ensures.partial in (
      λ _. partial_at c.self.inside.buffer.items c.deref.result.now at.at at.tally c.args.self.now.rest c.deref.ensures.value
          (ap (λ (d : Decoding). d.rest) c.self.view_is) partial,
      λ _. refl,
    )

pub returns-in-Ok-Some : goal.returns-in-Ok-Some
returns-in-Ok-Some c =
    let at = c.self.inside.position in
    let front = c.in-Ok-Some.field-0 in
    let frame = rw c.in-Ok-Some.field-0-is at c.in-Ok-Some.ensures.frame in (
      λ h. cc,
      λ p. absurd (partial_or_frame c.args.self.now.rest _ _ p
          (frame_at _ c.self.inside.buffer.items c.deref.result.now at.at _ at.tally _ c.args.self.now.rest c.deref.ensures.value
          (ap (λ (d : Decoding). d.rest) c.self.view_is) frame)),
    )

pub returns-in-Err : goal.returns-in-Err
returns-in-Err c =
    let at = c.self.inside.position in
    let fault = c.in-Err.field-0 in (
      λ h. cc,
      λ p. absurd (fault_or_partial fault c.args.self.now.rest
          (fault_at fault c.self.inside.buffer.items c.deref.result.now at.at at.tally c.args.self.now.rest c.deref.ensures.value
          (ap (λ (d : Decoding). d.rest) c.self.view_is) (λ _. c.in-Err.ensures.fault) (λ memory. rw memory at c.in-Err.ensures.fault)) p),
    )
