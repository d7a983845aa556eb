-- Linear code may go to other threads.
use denote.Param.Send.{IsSend, sendable}
use Rattle.std.proofs.Crossing.{crosses}
use Rattle.std.proofs.MapsCrossing.{crosses as maps}
use Rattle.janus_code.proofs.Crosses.{Code-send}
use Rattle.janus_linear.specs.contracts.code.Linear as Linear
use Rattle.janus_linear.specs.contracts.code.Assertion as Assertion

pub Linear-send : IsSend (Linear.the_field).row
Linear-send = search (crosses, maps, Code-send, sendable) depth 60 fits 20000

pub Assertion-send : IsSend (Assertion.the_field).row
Assertion-send = search (crosses, sendable) depth 60 fits 20000
