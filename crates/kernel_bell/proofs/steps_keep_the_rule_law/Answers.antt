use Rattle.kernel_bell.proofs.Concludes.{steps_keep}
use Rattle.kernel_bell.proofs.steps_keep_the_rule_law.Goals as goal

pub returns : goal.returns
returns c = steps_keep
