-- How refusals of posts are told.
use Rattle.std.specs.Prelude.{ℕ, List, codes}
use Rattle.kernel_machine.specs.declared.post.PostFault.{PostFault}
use Rattle.kernel_machine.specs.declared.post.PostFault.TheVariants.{Closing, MinutesFull, QueueFull, Memory}

abbrev pub number_of : PostFault → ℕ
number_of QueueFull = 74
number_of Closing = 75
number_of Memory = 76
number_of MinutesFull = 77

abbrev pub name_of : PostFault → List ℕ
name_of QueueFull = codes "QueueFull"
name_of Closing = codes "Closing"
name_of Memory = codes "Memory"
name_of MinutesFull = codes "MinutesFull"
