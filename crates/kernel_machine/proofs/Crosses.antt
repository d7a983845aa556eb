-- Jobs and how they end may go to other threads.
use denote.Param.Send.{IsSend, sendable}
use Rattle.std.proofs.Crossing.{crosses}
use Rattle.std.proofs.MapsCrossing.{crosses as maps}
use Rattle.kernel_machine.specs.contracts.post.Job as Job
use Rattle.kernel_machine.specs.contracts.outcome.Outcome as Outcome

pub Job-send : IsSend (Job.the_field).row
Job-send = search (crosses, maps, sendable) depth 60 fits 20000

pub Outcome-send : IsSend (Outcome.the_field).row
Outcome-send = search (crosses, sendable) depth 60 fits 20000
