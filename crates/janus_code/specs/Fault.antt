-- How the refusal of this layer is told.
use Rattle.std.specs.Prelude.{ℕ, List, codes}
use Rattle.janus_code.specs.declared.fault.InvertFault.{InvertFault}
use Rattle.janus_code.specs.declared.fault.InvertFault.TheVariants.{Memory}

abbrev pub number_of : InvertFault → ℕ
number_of Memory = 35

abbrev pub fault_name : InvertFault → List ℕ
fault_name Memory = codes "Memory"
