use Rattle.std.proofs.Common.{rules}
use Rattle.kernel_bell.proofs.Allowed.{splits}
use Rattle.kernel_bell.proofs.bell.Bell.new.Goals as goal

pub split_seat-ringer-requires : goal.split_seat-ringer-requires
split_seat-ringer-requires c = (search rules, search rules, splits _ _)
