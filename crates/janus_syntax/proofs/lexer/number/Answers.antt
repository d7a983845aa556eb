use Rattle.std.proofs.Common.{arith}
use Rattle.janus_syntax.proofs.Scanning.{past_largest}
use Rattle.janus_syntax.proofs.lexer.number.Goals as goal

pub returns-then-value-gt-LARGEST_NUMBER : goal.returns-then-value-gt-LARGEST_NUMBER
returns-then-value-gt-LARGEST_NUMBER c =
    past_largest c.args.digits.now c.loop-digit.value c.loop-digit.digit-index _ (omega arith) c.loop-digit.invariant.same c.if-value-gt-LARGEST_NUMBER.true
