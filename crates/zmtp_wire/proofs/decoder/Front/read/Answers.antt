use Rattle.std.proofs.Common.{refl, take}
use Rattle.zmtp_wire.proofs.Taking.{header_begun, body_begun, frame_whole}
use Rattle.zmtp_wire.proofs.decoder.Front.read.Goals as goal

pub returns-in_default-clause-partial : goal.returns-in_default-clause-partial
returns-in_default-clause-partial c =
    let begun = rw c.in_default.is at c.in_ok-header.ensures.begun in
    header_begun c.args.octets.now c.args.tally begun

pub returns-then-behind-size-clause-partial : goal.returns-then-behind-size-clause-partial
returns-then-behind-size-clause-partial c =
    let has = rw c.in-Some.is at c.in_ok-header.ensures.found in
    body_begun c.args.octets.now c.args.tally c.in-Some.header c.in-Some.behind.now has c.in-Some-with.ensures.fits c.if-behind-size.true

pub returns-clause-frame : goal.returns-clause-frame
returns-clause-frame c =
    let has = rw c.in-Some.is at c.in_ok-header.ensures.found in
    frame_whole c.args.octets.now c.args.tally c.in-Some-with.tally c.in-Some.header c.in-Some.behind.now (take c.in-Some.header.size c.in-Some.behind.now)
    _ has c.in-Some-with.ensures.fits
    c.in-Some-with.ensures.after c.if-behind-size.false refl refl
