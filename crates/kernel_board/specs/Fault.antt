-- The number and the word of the fault.
use Rattle.std.specs.Prelude.{ℕ, List, codes}
use Rattle.kernel_board.specs.declared.fault.BoardFault.{BoardFault}
use Rattle.kernel_board.specs.declared.fault.BoardFault.TheVariants.{Memory}

abbrev pub number_of : BoardFault → ℕ
number_of Memory = 76

abbrev pub name_of : BoardFault → List ℕ
name_of Memory = codes "Memory"
