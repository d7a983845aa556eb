use Rattle.kernel_desk.proofs.Shutdowns.{is_final}
use Rattle.kernel_desk.proofs.laws.shutdown_is_final_law.Goals as goal

pub returns : goal.returns
returns c = is_final
