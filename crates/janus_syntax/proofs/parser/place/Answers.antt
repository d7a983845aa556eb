use Rattle.std.proofs.Common.{length, ◌-◌}
use Rattle.janus_syntax.proofs.Places.{place_at}
use Rattle.janus_syntax.proofs.parser.place.Goals as goal

pub returns-in-Some : goal.returns-in-Some
returns-in-Some c =
    place_at c.args.tokens.now (length c.args.tokens.now - c.args.left) c.args.end c.in-Some.token.now c.in-Some.ensures.lookup.3.0 c.in-Some.ensures.lookup.1
