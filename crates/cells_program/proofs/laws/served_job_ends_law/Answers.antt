use Rattle.cells_program.proofs.ServedEnds.{served_job_ends}
use Rattle.cells_program.proofs.laws.served_job_ends_law.Goals as goal

pub returns : goal.returns
returns c = served_job_ends c.jobs_end_law.ensures
