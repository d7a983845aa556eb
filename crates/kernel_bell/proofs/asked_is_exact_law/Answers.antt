use Rattle.kernel_bell.proofs.Concludes.{asked_is_exact}
use Rattle.kernel_bell.proofs.asked_is_exact_law.Goals as goal

pub returns : goal.returns
returns c = asked_is_exact
