-- Where notes have led a kernel, no other one stands.
use Rattle.std.specs.Prelude.{◌≡◌, List}
use Rattle.kernel_machine.specs.Runs.{Machine}
use Rattle.kernel_audit.specs.declared.note.Note.{Note}
use Rattle.kernel_audit.specs.Course.{HasCome}

-- Two kernels that the same notes have led to the same minutes are one: in the midst of a job too, and whatever memory was wanting.
abbrev pub OneKernelStands : Type 0
OneKernelStands = (notes : List Note) (k other : Machine) → HasCome notes k → HasCome notes other → k.minutes ≡ other.minutes → k ≡ other
