use Rattle.std.proofs.Common.{arith, sym}
use Rattle.std.proofs.lemmas.List.Sums.{prefix_len_is}
use Rattle.std.proofs.lemmas.Bool.Decides.{nat_tests}
use Rattle.janus_syntax.specs.Lexical.{in_line}
use Rattle.janus_syntax.proofs.lexer.line_len.Goals as goal

pub returns-else-octets-n-ne10 : goal.returns-else-octets-n-ne10
returns-else-octets-n-ne10 c =
    sym (prefix_len_is in_line c.args.octets.now c.loop-n.n 0 c.loop-n.invariant.in_range c.loop-n.invariant.all (λ h. grind (arith, nat_tests)))

pub returns-after-loop-n : goal.returns-after-loop-n
returns-after-loop-n c =
    sym (prefix_len_is in_line c.args.octets.now c.loop-n.n 0 c.loop-n.invariant.in_range c.loop-n.invariant.all (λ h. absurd (omega arith)))
