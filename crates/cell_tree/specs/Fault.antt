-- The number and the word of each fault.
use Rattle.std.specs.Prelude.{ℕ, List, codes}
use Rattle.cell_tree.specs.declared.fault.TreeFault.{TreeFault}
use Rattle.cell_tree.specs.declared.fault.TreeFault.TheVariants.{HistoryFull, NoNode, Memory}

abbrev pub number_of : TreeFault → ℕ
number_of HistoryFull = 70
number_of NoNode = 71
number_of Memory = 72

abbrev pub name_of : TreeFault → List ℕ
name_of HistoryFull = codes "HistoryFull"
name_of NoNode = codes "NoNode"
name_of Memory = codes "Memory"
