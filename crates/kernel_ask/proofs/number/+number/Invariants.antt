use Rattle.kernel_ask.proofs.Sizes.{exp_size}
use Rattle.kernel_ask.proofs.number.+number.Given as goal

abbrev pub decreases-number : goal.decreases-number
decreases-number g l = exp_size l.exp.now
