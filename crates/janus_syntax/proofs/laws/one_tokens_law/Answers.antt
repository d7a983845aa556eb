use Rattle.janus_syntax.proofs.OneLexing.{only_tokens}
use Rattle.janus_syntax.proofs.laws.one_tokens_law.Goals as goal

pub returns : goal.returns
returns c = only_tokens
