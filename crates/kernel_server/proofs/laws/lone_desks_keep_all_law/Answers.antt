use Rattle.kernel_server.proofs.Courses.{lone_desks_keep_all}
use Rattle.kernel_server.proofs.laws.lone_desks_keep_all_law.Goals as goal

pub returns : goal.returns
returns c = lone_desks_keep_all
