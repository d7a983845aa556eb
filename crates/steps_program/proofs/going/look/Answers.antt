use Rattle.std.proofs.Common.{true, sym}
use Rattle.steps_program.proofs.Seeking.{holding}
use Rattle.steps_program.proofs.going.look.Goals as goal

pub returns-then-is_true-clause-err : goal.returns-then-is_true-clause-err
returns-then-is_true-clause-err g c =
    holding c.args.exp.now c.meet_here.new.self c.seen_number-number.result.0 _ true c.seen_number-number.ensures (sym c.if-is_true.ensures)

pub returns-clause-ok : goal.returns-clause-ok
returns-clause-ok g c = (_, c.seen_number-number.ensures, sym c.if-is_true.ensures)
