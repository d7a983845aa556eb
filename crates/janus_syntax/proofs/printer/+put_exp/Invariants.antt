-- An operator's sides are not as deep as the whole.
use Rattle.std.proofs.Common.{◌+◌, ◌*◌, max}
use Rattle.janus_syntax.specs.declared.tree.Exp.{size-Exp}
use Rattle.janus_syntax.proofs.printer.+put_exp.Given as goal

abbrev pub decreases-put_exp : goal.decreases-put_exp
decreases-put_exp l = 2 * size-Exp l.exp.now

abbrev pub decreases-put_infix : goal.decreases-put_infix
decreases-put_infix l = 2 * max (size-Exp l.left.now) (size-Exp l.right.now) + 1
