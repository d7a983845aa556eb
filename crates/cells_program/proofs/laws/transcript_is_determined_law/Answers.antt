use Rattle.kernel_core.specs.Runs.{new_machine}
use Rattle.cells_program.specs.Script.{script}
use Rattle.cells_program.proofs.Determined.{actions_same}
use Rattle.cells_program.proofs.laws.transcript_is_determined_law.Goals as goal

pub returns : goal.returns
returns c choice input out other a ample b enough =
    actions_same c.step_is_determined_law.ensures c.stays_legal_law.ensures choice (script input) new_machine a.0 b.0 out other c.new_is_legal_law.ensures.0 a.1
    ample b.1 enough
