use Rattle.kernel_reply.proofs.Replied.{ends_are_replied, refusals_are_replied, answers_are_replied}
use Rattle.kernel_reply.proofs.laws.requests_are_replied_law.Goals as goal

pub returns-clause-ends : goal.returns-clause-ends
returns-clause-ends c = ends_are_replied

pub returns-clause-refusals : goal.returns-clause-refusals
returns-clause-refusals c = refusals_are_replied

pub returns-clause-answers : goal.returns-clause-answers
returns-clause-answers c = answers_are_replied
