use Rattle.std.proofs.Common.{rules}
use Rattle.shared_history.proofs.Moves.{splits, joins, compares}
use Rattle.shared_history.proofs.history.Front.see.Goals as goal

pub split_seat-fresh-requires : goal.split_seat-fresh-requires
split_seat-fresh-requires g c = (search rules, search rules, splits _ _)

pub join_seat-requires : goal.join_seat-requires
join_seat-requires g c = (search rules, search rules, search rules, search rules, joins _ _ _ _)

pub load-requires : goal.load-requires
load-requires g c = (search rules, search rules, compares _ _ _ (search rules))
