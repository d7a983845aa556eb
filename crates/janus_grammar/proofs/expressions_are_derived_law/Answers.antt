use Rattle.janus_grammar.proofs.Theorems.{expressions_are_derived, expressions_within_limits}
use Rattle.janus_grammar.proofs.expressions_are_derived_law.Goals as goal

pub returns-clause-same : goal.returns-clause-same
returns-clause-same c = expressions_are_derived

pub returns-clause-within_limits : goal.returns-clause-within_limits
returns-clause-within_limits c = expressions_within_limits
