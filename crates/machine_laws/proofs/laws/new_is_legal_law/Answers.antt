use Rattle.kernel_machine.proofs.Stays.{new_is_legal}
use Rattle.machine_laws.proofs.laws.new_is_legal_law.Goals as goal

pub returns : goal.returns
returns c = new_is_legal
