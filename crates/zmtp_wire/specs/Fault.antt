-- The numbers and the words of the faults.
use Rattle.std.specs.Prelude.{ℕ, List, codes}
use Rattle.zmtp_wire.specs.declared.fault.WireFault.{WireFault}
use Rattle.zmtp_wire.specs.declared.fault.WireFault.TheVariants.{BadSignature, OldVersion, BadMechanism, ReservedBits, CommandWithMore, TooLong, Memory}

abbrev pub number_of : WireFault → ℕ
number_of BadSignature = 1
number_of OldVersion = 2
number_of BadMechanism = 3
number_of ReservedBits = 4
number_of CommandWithMore = 5
number_of TooLong = 6
number_of Memory = 7

abbrev pub name_of : WireFault → List ℕ
name_of BadSignature = codes "BadSignature"
name_of OldVersion = codes "OldVersion"
name_of BadMechanism = codes "BadMechanism"
name_of ReservedBits = codes "ReservedBits"
name_of CommandWithMore = codes "CommandWithMore"
name_of TooLong = codes "TooLong"
name_of Memory = codes "Memory"
