use Rattle.kernel_reply.proofs.Found.{tells_values_by_name}
use Rattle.kernel_reply.proofs.Listed.{tells_each_name_once}
use Rattle.kernel_reply.proofs.laws.tells_values_by_name_law.Goals as goal

pub returns-clause-names : goal.returns-clause-names
returns-clause-names c = tells_each_name_once

pub returns-clause-values : goal.returns-clause-values
returns-clause-values c = tells_values_by_name
