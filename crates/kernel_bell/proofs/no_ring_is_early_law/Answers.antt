use Rattle.kernel_bell.proofs.Concludes.{no_ring_is_early}
use Rattle.kernel_bell.proofs.no_ring_is_early_law.Goals as goal

pub returns : goal.returns
returns c = no_ring_is_early
