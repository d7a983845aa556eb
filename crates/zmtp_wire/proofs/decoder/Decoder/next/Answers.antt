use Rattle.std.proofs.Common.{◌≢◌, ap}
use Rattle.zmtp_wire.specs.declared.fault.WireFault.{WireFault}
use Rattle.zmtp_wire.specs.declared.fault.WireFault.TheVariants.{Memory}
use Rattle.zmtp_wire.specs.Stream.{IsFaultAt}
use Rattle.zmtp_wire.specs.Decoding.{Decoding}
use Rattle.zmtp_wire.proofs.Taking.{fault_at, frame_at}
use Rattle.zmtp_wire.proofs.Decodings.{tells_fault, given_more, err_of, tells_of, takes_copy}
use Rattle.zmtp_wire.proofs.decoder.Decoder.next.Goals as goal

pub returns-in_err-front-clause-fault : goal.returns-in_err-front-clause-fault
returns-in_err-front-clause-fault c =
    let at = c.self.inside.position in
    let fault = c.in_err-front.field-0.0 in
    let told : fault ≢ Memory → IsFaultAt c.args.self.now.rest fault =
    fault_at fault c.self.inside.buffer.items c.deref.result.now at.at at.tally c.args.self.now.rest c.deref.ensures.value
    (ap (λ (d : Decoding). d.rest) c.self.view_is) (λ _. c.in_err-front.ensures.fault) in
    err_of c.from_residual.result fault (λ (f : WireFault). f ≢ Memory → IsFaultAt c.args.self.now.rest f) c.from_residual.ensures.1 told

pub returns-in_err-front-clause-whole : goal.returns-in_err-front-clause-whole
returns-in_err-front-clause-whole c octets given has =
    let at = c.self.inside.position in
    let fault = c.in_err-front.field-0.0 in
    let told : fault ≢ Memory → IsFaultAt c.args.self.now.rest fault =
    fault_at fault c.self.inside.buffer.items c.deref.result.now at.at at.tally c.args.self.now.rest c.deref.ensures.value
    (ap (λ (d : Decoding). d.rest) c.self.view_is) (λ _. c.in_err-front.ensures.fault) in
    tells_of c.from_residual.result fault c.args.self.now octets given c.from_residual.ensures.1 (tells_fault fault c.args.self.now octets given has told)

pub returns-in_err-from_slice-clause-memory : goal.returns-in_err-from_slice-clause-memory
returns-in_err-from_slice-clause-memory c _ =
    let at = c.self.inside.position in
    let front = c.in-Some.front in
    let frame = rw c.in-Some.is at c.in_ok-front.ensures.frame in (
      _,
      _,
      frame_at _ c.self.inside.buffer.items c.deref.result.now at.at front.length at.tally front.tally c.args.self.now.rest c.deref.ensures.value
          (ap (λ (d : Decoding). d.rest) c.self.view_is) frame,
    )

pub returns-clause-frame : goal.returns-clause-frame
returns-clause-frame c =
    let at = c.self.inside.position in
    let front = c.in-Some.front in
    let frame = rw c.in-Some.is at c.in_ok-front.ensures.frame in
    takes_copy c.args.self.now.rest _ front.more front.command front.body.now c.in_ok-from_slice.field-0.items c.in_ok-from_slice.ensures.items
    (frame_at _ c.self.inside.buffer.items c.deref.result.now at.at front.length at.tally front.tally c.args.self.now.rest c.deref.ensures.value
    (ap (λ (d : Decoding). d.rest) c.self.view_is) frame)

pub returns-clause-whole : goal.returns-clause-whole
returns-clause-whole c octets given has = given_more c.args.self.now octets given _ _ has (returns-clause-frame c)
