use Rattle.std.proofs.Common.{rules}
use Rattle.shared_history.proofs.Moves.{splits}
use Rattle.shared_history.proofs.history.Keeper.front.Goals as goal

pub split_seat-seen-requires : goal.split_seat-seen-requires
split_seat-seen-requires g c = (search rules, search rules, splits _ _)
