use Rattle.janus_syntax.proofs.Pieces.{both}
use Rattle.janus_syntax.proofs.printer.+put_exp.Goals as goal

pub put_exp-returns-in-Element : goal.put_exp-returns-in-Element
put_exp-returns-in-Element t c =
    rw c.in-Element.is
    (both c.put_name-in-Element.ensures (both c.put_sign.ensures (both (rw c.deref.ensures at c.put_exp.ensures) c.put_sign-in-Element.ensures)))

pub put_infix-returns : goal.put_infix-returns
put_infix-returns t c =
    both (rw c.level_of-own.ensures at c.put_if.ensures) (both (rw c.level_of-own.ensures at c.put_exp.ensures) (both c.put_sign.ensures
    (both (rw (c.saturating_sub.ensures, c.level_of-own.ensures) at c.put_exp-2.ensures) (rw c.level_of-own.ensures at c.put_if-2.ensures))))
