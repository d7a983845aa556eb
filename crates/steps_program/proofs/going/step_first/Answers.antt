use Rattle.steps_program.proofs.Stopping.{one_on}
use Rattle.steps_program.proofs.Seeking.{looked_ok, looked_err}
use Rattle.steps_program.proofs.going.step_first.Goals as goal

pub returns-in-Went-clause-ok : goal.returns-in-Went-clause-ok
returns-in-Went-clause-ok g c =
    let old = c.args.walk.now in
    let new = c.look.new.walk in
    looked_ok c.args.sources.now c.args.exp old new
    (one_on old c.on.new.self new c.look.ensures.kept c.in-Went.ensures.moves c.in-Went.ensures.runs c.in-Went.ensures.counted) c.look.result c.look.ensures.ok

pub returns-in-Went-clause-err : goal.returns-in-Went-clause-err
returns-in-Went-clause-err g c =
    let old = c.args.walk.now in
    let new = c.look.new.walk in
    looked_err c.args.sources.now c.args.exp old new
    (one_on old c.on.new.self new c.look.ensures.kept c.in-Went.ensures.moves c.in-Went.ensures.runs c.in-Went.ensures.counted) c.look.result c.look.ensures.err
