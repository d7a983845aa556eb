-- Tables of names may go to other threads.
use denote.Param.Send.{IsSend, sendable}
use Rattle.std.proofs.Crossing.{crosses}
use Rattle.std.proofs.MapsCrossing.{crosses as maps}
use Rattle.janus_slots.specs.contracts.names.Names as Names

pub Names-send : IsSend (Names.the_field).row
Names-send = search (crosses, maps, sendable) depth 60 fits 20000
