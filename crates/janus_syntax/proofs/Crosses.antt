-- Trees may go to other threads.
use denote.Param.Send.{IsSend, sendable}
use Rattle.std.proofs.Crossing.{crosses}
use Rattle.janus_syntax.specs.contracts.tree.Operator as Operator
use Rattle.janus_syntax.specs.contracts.tree.Update as Update
use Rattle.janus_syntax.specs.contracts.tree.Exp as Exp
use Rattle.janus_syntax.proofs.tree.Exp.TheLaws.TheKnot.{crosses as exp_crosses}
use Rattle.janus_syntax.specs.contracts.tree.Stm as Stm
use Rattle.janus_syntax.proofs.tree.Stm.TheLaws.TheKnot.{crosses as stm_crosses}
use Rattle.janus_syntax.specs.contracts.tree.Procedure as Procedure
use Rattle.janus_syntax.specs.contracts.tree.Cell as Cell

pub Operator-send : IsSend (Operator.the_field).row
Operator-send = search (crosses, sendable) depth 60 fits 20000

pub Update-send : IsSend (Update.the_field).row
Update-send = search (crosses, sendable) depth 60 fits 20000

pub Exp-send : IsSend (Exp.the_field).row
Exp-send = search (crosses, exp_crosses, sendable) depth 60 fits 20000

Stm-send : IsSend (Stm.the_field).row
Stm-send = search (crosses, stm_crosses, Exp-send, sendable) depth 60 fits 20000

Procedure-send : IsSend (Procedure.the_field).row
Procedure-send = search (crosses, Stm-send, sendable) depth 60 fits 20000

pub Cell-send : IsSend (Cell.the_field).row
Cell-send = search (crosses, Stm-send, Procedure-send, sendable) depth 60 fits 20000
