use Rattle.hall_laws.proofs.Courses.{one_kernel_stands}
use Rattle.hall_laws.proofs.one_kernel_stands_law.Goals as goal

pub returns : goal.returns
returns c = one_kernel_stands
