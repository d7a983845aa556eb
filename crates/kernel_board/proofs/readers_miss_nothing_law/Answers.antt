use Rattle.kernel_board.proofs.Reading.{reads_on}
use Rattle.kernel_board.proofs.readers_miss_nothing_law.Goals as goal

pub returns : goal.returns
returns c = reads_on
