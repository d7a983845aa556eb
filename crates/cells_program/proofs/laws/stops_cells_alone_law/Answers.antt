use Rattle.cells_program.proofs.ServedEnds.{stops_cells_alone}
use Rattle.cells_program.proofs.laws.stops_cells_alone_law.Goals as goal

pub returns : goal.returns
returns c = stops_cells_alone c.jobs_end_law.ensures c.only_asked_slices_stop_law.ensures
