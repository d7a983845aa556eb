use Rattle.janus_syntax.proofs.TextLaws.{one_refusal}
use Rattle.janus_syntax.proofs.laws.one_refusal_law.Goals as goal

pub returns : goal.returns
returns c = one_refusal
