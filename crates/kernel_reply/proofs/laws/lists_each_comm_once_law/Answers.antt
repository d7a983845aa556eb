use Rattle.kernel_reply.proofs.Found.{lists_each_with_its_target}
use Rattle.kernel_reply.proofs.Listed.{lists_each_comm_once}
use Rattle.kernel_reply.proofs.laws.lists_each_comm_once_law.Goals as goal

pub returns-clause-names : goal.returns-clause-names
returns-clause-names c = lists_each_comm_once

pub returns-clause-targets : goal.returns-clause-targets
returns-clause-targets c = lists_each_with_its_target
