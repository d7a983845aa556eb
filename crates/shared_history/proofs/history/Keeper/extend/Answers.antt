use Rattle.std.proofs.Common.{rules, ap}
use Rattle.shared_history.proofs.Moves.{adds}
use Rattle.shared_history.proofs.history.Keeper.extend.Goals as goal

pub compare_exchange_with-requires : goal.compare_exchange_with-requires
compare_exchange_with-requires g c = (search rules, search rules, adds _ _ _ _ (ap (λ m. m.0.keeps) c.self.invariant.3))
