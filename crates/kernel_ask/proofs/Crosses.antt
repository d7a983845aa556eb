-- What is asked and answered may go to other threads.
use denote.Param.Send.{IsSend, sendable}
use Rattle.std.proofs.Crossing.{crosses}
use Rattle.std.proofs.MapsCrossing.{crosses as maps}
use Rattle.janus_syntax.proofs.Crosses.{Exp-send}
use Rattle.kernel_text.proofs.MachineCrosses.{Outcome-send}
use Rattle.kernel_ask.specs.contracts.comms.Comms as Comms
use Rattle.kernel_ask.specs.contracts.done.Done as Done
use Rattle.kernel_ask.specs.contracts.done.NamedValue as NamedValue
use Rattle.kernel_ask.specs.contracts.making.Making as Making
use Rattle.kernel_ask.specs.contracts.wish.Wish as Wish

pub Comms-send : IsSend (Comms.the_field).row
Comms-send = search (crosses, maps, sendable) depth 60 fits 20000

pub NamedValue-send : IsSend (NamedValue.the_field).row
NamedValue-send = search (crosses, maps, sendable) depth 60 fits 20000

pub Done-send : IsSend (Done.the_field).row
Done-send = search (crosses, maps, Outcome-send, NamedValue-send, sendable) depth 60 fits 20000

pub Wish-send : IsSend (Wish.the_field).row
Wish-send = search (crosses, maps, Exp-send, sendable) depth 60 fits 20000

pub Making-send : IsSend (Making.the_field).row
Making-send = search (crosses, maps, Wish-send, NamedValue-send, sendable) depth 60 fits 20000
