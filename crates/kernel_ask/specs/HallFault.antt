-- How it is told why a question is not answered.
use Rattle.std.specs.Prelude.{ℕ, List, codes}
use Rattle.kernel_ask.specs.declared.answer.HallFault.{HallFault}
use Rattle.kernel_ask.specs.declared.answer.HallFault.TheVariants.{Memory, NoPass}

abbrev pub number_of : HallFault → ℕ
number_of Memory = 76
number_of NoPass = 81

abbrev pub name_of : HallFault → List ℕ
name_of Memory = codes "Memory"
name_of NoPass = codes "NoPass"
