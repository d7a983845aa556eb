use Rattle.std.proofs.Common.{length, ap, arith}
use Rattle.std.proofs.lemmas.List.{length-drop}
use Rattle.zmtp_wire.proofs.decoder.drop_given.Goals as goal

pub returns-then-given-len-clause-given_back : goal.returns-then-given-len-clause-given_back
returns-then-given-len-clause-given_back c none =
    absurd (omega (arith, length-drop c.args.given c.args.buffer.now.items, ap length none, c.if-given-len.true))
