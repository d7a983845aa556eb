use Rattle.std.proofs.Common.{arith, ap, length, ◌∙◌}
use Rattle.std.proofs.lemmas.List.{length-drop}
use Rattle.zmtp_wire.specs.Decoding.{Decoding}
use Rattle.std.proofs.lemmas.Grind.{common_steps}
use Rattle.zmtp_wire.specs.declared.decoder.TheConstants.{KEPT_BUFFER_OCTETS}
use Rattle.zmtp_wire.proofs.Decodings.{given_longer, most-room, least-room}
use Rattle.zmtp_wire.proofs.decoder.Decoder.feed.Goals as goal

pub returns-clause-fed : goal.returns-clause-fed
returns-clause-fed c = grind (arith, common_steps)

pub returns-clause-given : goal.returns-clause-given
returns-clause-given c = given_longer c.args.self.now _ c.args.piece.now (returns-clause-fed c)

pub returns-clause-room : goal.returns-clause-room
returns-clause-room c =
    let mid = c.drop_given-self-inside.new.buffer in
    let left = ap length (c.drop_given-self-inside.ensures.rest ∙ ap (λ (d : Decoding). d.rest.octets) c.self.view_is) in
    most-room c.drop_given-self-inside.result mid.len (length c.args.self.now.rest.octets) (length c.args.piece.now)
    c.args.self.now.room mid.cap c.append.new.buffer.cap
    c.drop_given-self-inside.ensures.mostly (omega (arith, mid.ok.0, left, length-drop c.drop_given-self-inside.result mid.items))
    c.drop_given-self-inside.ensures.within
    (omega (arith, c.drop_given-self-inside.ensures.room, ap (λ (d : Decoding). d.room) c.self.view_is)) c.in_ok-append.ensures.room

pub returns-clause-given_back : goal.returns-clause-given_back
returns-clause-given_back c = λ none.
    let mid = c.drop_given-self-inside.new.buffer in
    let given = ap (λ (d : Decoding). d.rest.octets) c.self.view_is ∙ none in
    let left = ap length (c.drop_given-self-inside.ensures.rest ∙ given) in
    least-room c.drop_given-self-inside.result mid.len (length c.args.piece.now) KEPT_BUFFER_OCTETS mid.cap c.append.new.buffer.cap
    c.drop_given-self-inside.ensures.mostly (omega (arith, mid.ok.0, left, length-drop c.drop_given-self-inside.result mid.items))
    c.drop_given-self-inside.ensures.within
    (c.drop_given-self-inside.ensures.given_back given) c.in_ok-append.ensures.room
