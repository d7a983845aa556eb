-- Flat code may go to other threads.
use denote.Param.Send.{IsSend, sendable}
use Rattle.std.proofs.Crossing.{crosses}
use Rattle.std.proofs.MapsCrossing.{crosses as maps}
use Rattle.janus_code.specs.contracts.code.FlatExp as FlatExp
use Rattle.janus_code.proofs.code.FlatExp.TheLaws.TheKnot.{crosses as exp_crosses}
use Rattle.janus_code.specs.contracts.code.Statement as Statement
use Rattle.janus_code.specs.contracts.code.Code as Code

FlatExp-send : IsSend (FlatExp.the_field).row
FlatExp-send = search (crosses, exp_crosses, sendable) depth 60 fits 20000

Statement-send : IsSend (Statement.the_field).row
Statement-send = search (crosses, maps, FlatExp-send, sendable) depth 60 fits 20000

pub Code-send : IsSend (Code.the_field).row
Code-send = search (crosses, Statement-send, sendable) depth 60 fits 20000
