use Rattle.std.proofs.Common.{ℕ, subst}
use Rattle.std.specs.Prelude.{Ok, Result}
use Rattle.kernel_machine.specs.Request.{Request, request_of}
use Rattle.kernel_machine.specs.Runs.{IsPost}
use Rattle.kernel_machine.specs.declared.post.PostFault.{PostFault}
use Rattle.cells_program.specs.Served.{lane}
use Rattle.steps_program.proofs.Entering.{begun}
use Rattle.steps_program.proofs.program.begin.Goals as goal

pub returns-in-Ok-clause-begins : goal.returns-in-Ok-clause-begins
returns-in-Ok-clause-begins g c =
    let old = c.args.kernel.now.machine in
    let mid = c.post.new.self.machine in
    begun old mid c.begin_posted.new.kernel.machine c.args.text.now c.in-Ok.field-0 c.begin_posted.result
    (subst (λ (r : Request). IsPost old lane r (Ok c.in-Ok.field-0) mid) c.in_ok-job.ensures
    (subst (λ (r : Result ℕ PostFault). IsPost old lane (request_of c.in_ok-job.job) r mid) c.in-Ok.is c.post.ensures.post))
    c.begin_posted.ensures.begins
