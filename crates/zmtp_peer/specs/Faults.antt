-- Why a peer is refused.
use Rattle.std.specs.Prelude.{ℕ, List, take, codes}
use Rattle.zmtp_wire.specs.declared.fault.WireFault.{WireFault}
use Rattle.zmtp_wire.specs.declared.fault.WireFault.TheVariants.{Memory}
use Rattle.zmtp_wire.specs.Fault as wire
use Rattle.zmtp_peer.specs.declared.fault.Reason.{Reason}
use Rattle.zmtp_peer.specs.declared.fault.PeerFault.{PeerFault}
use Rattle.zmtp_peer.specs.declared.fault.PeerFault.TheVariants as code

-- a fault, without how its reason lies in memory
pub data Fault : Type 0 where
  Wire : WireFault → Fault
  NoSocketType : Fault
  WrongPair : Fault
  BadMetadata : Fault
  PeerError : List ℕ → Fault
  NotReady : Fault
  BadPing : Fault

-- the octets of a reason
abbrev pub octets_of : Reason → List ℕ
octets_of reason = take reason.length reason.octets

abbrev pub fault_of : PeerFault → Fault
fault_of (code.Wire fault) = Wire fault
fault_of code.NoSocketType = NoSocketType
fault_of code.WrongPair = WrongPair
fault_of code.BadMetadata = BadMetadata
fault_of (code.PeerError reason) = PeerError (octets_of reason)
fault_of code.NotReady = NotReady
fault_of code.BadPing = BadPing

abbrev pub number_of : Fault → ℕ
number_of (Wire fault) = wire.number_of fault
number_of NoSocketType = 8
number_of WrongPair = 9
number_of BadMetadata = 10
number_of (PeerError reason) = 11
number_of NotReady = 12
number_of BadPing = 13

abbrev pub name_of : Fault → List ℕ
name_of (Wire fault) = wire.name_of fault
name_of NoSocketType = codes "NoSocketType"
name_of WrongPair = codes "WrongPair"
name_of BadMetadata = codes "BadMetadata"
name_of (PeerError reason) = codes "PeerError"
name_of NotReady = codes "NotReady"
name_of BadPing = codes "BadPing"

abbrev pub want_of_memory : Fault
want_of_memory = Wire Memory
