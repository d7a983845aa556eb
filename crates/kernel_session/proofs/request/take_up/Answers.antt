use Rattle.kernel_session.specs.Parts.{IsTakenUpPart}
use Rattle.kernel_session.proofs.RequestLemmas.{on_fail, taken_up, dated_part, begun_part}
use Rattle.kernel_session.proofs.request.take_up.Goals as goal

pub returns-in_err-begin-clause-err : goal.returns-in_err-begin-clause-err
returns-in_err-begin-clause-err g c =
    on_fail c.from_residual.result (IsTakenUpPart g.D.Desk.leads c.args.desk.now c.begin.new.desk c.args.key.now c.args.request.now c.args.stamp.now)
    (dated_part g.D.Desk.leads c.args.desk.now c.begin.new.desk c.begin.new.desk c.args.key.now c.args.request.now
    c.args.stamp.now c.begin.new.stamp c.in_err-begin.ensures.err)

pub returns-in-Ok-clause-ok : goal.returns-in-Ok-clause-ok
returns-in-Ok-clause-ok g c =
    let p = c.in-Ok.ensures.ok in
    taken_up g.D.Desk.leads c.args.desk.now c.begin.new.desk c.consult.new.desk c.args.key.now c.args.request.now
    c.args.stamp.now c.begin.new.stamp c.in_ok-begin.ensures.ok c.in-Ok.consulted.told p.0 p.1

pub returns-in-Err-clause-err : goal.returns-in-Err-clause-err
returns-in-Err-clause-err g c =
    begun_part g.D.Desk.leads c.args.desk.now c.begin.new.desk c.consult.new.desk c.args.key.now c.args.request.now
    c.args.stamp.now c.begin.new.stamp c.in_ok-begin.ensures.ok c.in-Err.ensures.err
