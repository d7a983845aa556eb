use Rattle.janus_syntax.proofs.TextLaws.{tree_or_refusal, not_both}
use Rattle.janus_syntax.proofs.laws.tree_or_refusal_law.Goals as goal

pub returns-clause-one : goal.returns-clause-one
returns-clause-one c = tree_or_refusal

pub returns-clause-not_both : goal.returns-clause-not_both
returns-clause-not_both c = not_both
