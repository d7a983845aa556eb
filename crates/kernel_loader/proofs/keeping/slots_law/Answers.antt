use Rattle.std.proofs.Common.{arith}
use Rattle.janus_code.proofs.Slotting.{all_long}
use Rattle.kernel_loader.proofs.keeping.slots_law.Goals as goal

pub returns : goal.returns
returns c = omega (arith, all_long, c.ranges.width.fits)
