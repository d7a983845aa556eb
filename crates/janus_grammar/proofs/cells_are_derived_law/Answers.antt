use Rattle.janus_grammar.proofs.Theorems.{cells_are_derived, cells_within_limits}
use Rattle.janus_grammar.proofs.cells_are_derived_law.Goals as goal

pub returns-clause-same : goal.returns-clause-same
returns-clause-same c = cells_are_derived

pub returns-clause-within_limits : goal.returns-clause-within_limits
returns-clause-within_limits c = cells_within_limits
