use Rattle.std.proofs.Common.{[], ◌∷◌}
use Rattle.shared_history.proofs.Moves.{begins}
use Rattle.shared_history.proofs.history.NewHistory.new.Goals as goal

pub of_words-requires : goal.of_words-requires
of_words-requires g c = begins (0 ∷ []) []
