-- The number and the word of the fault of what isn't made.
use Rattle.std.specs.Prelude.{ℕ, List, codes}
use Rattle.janus_frames.specs.declared.fault.RoomFault.{RoomFault}
use Rattle.janus_frames.specs.declared.fault.RoomFault.TheVariants.{Memory}

abbrev pub number_of : RoomFault → ℕ
number_of Memory = 35

abbrev pub name_of : RoomFault → List ℕ
name_of Memory = codes "Memory"
