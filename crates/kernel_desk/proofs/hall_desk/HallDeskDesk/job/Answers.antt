use Rattle.kernel_hall.specs.Request.{request_of}
use Rattle.kernel_desk.proofs.Calls.{IsRun, is_posted, still_knows}
use Rattle.kernel_desk.proofs.hall_desk.HallDeskDesk.job.Goals as goal

pub invariant_of-self : goal.invariant_of-self
invariant_of-self g c =
    let run = c.run.ensures in
    let old = c.self.inside in
    let is : IsRun old.pass (request_of c.args.job) c.args.wishes.items c.run.result c.run.new.pass =
    record {
      posted = run.posted;
      end = run.end;
      made = run.made;
      noted = run.noted;
      acts = run.acts;
      refused = run.refused;
      no_acts = run.no_acts;
      refusal = run.refusal;
    } in (
      c.self.invariant.0,
      still_knows old.was_shut old.pass (request_of c.args.job) c.args.wishes.items c.run.result c.run.new.pass c.self.invariant.1 is,
    )

pub returns : goal.returns
returns g c =
    let run = c.run.ensures in
    is_posted _ _ (request_of c.args.job) c.args.wishes.items c.run.result c.run.new.pass c.self.view_is c.self.invariant.1
    (record {
      posted = run.posted;
      end = run.end;
      made = run.made;
      noted = run.noted;
      acts = run.acts;
      refused = run.refused;
      no_acts = run.no_acts;
      refusal = run.refusal;
    })
