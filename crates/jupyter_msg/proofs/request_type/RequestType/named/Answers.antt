use Rattle.std.proofs.Common.{◌∙◌}
use Rattle.jupyter_msg.proofs.TypeLemmas.{type_named-has_name, type_named-every}
use Rattle.jupyter_msg.proofs.request_type.RequestType.named.Goals as goal

pub returns-clause-has_name : goal.returns-clause-has_name
returns-clause-has_name c = rw c.first_named.ensures (type_named-has_name c.args.name.now)

pub returns-clause-every : goal.returns-clause-every
returns-clause-every c = λ t e. c.first_named.ensures ∙ type_named-every c.args.name.now t e
