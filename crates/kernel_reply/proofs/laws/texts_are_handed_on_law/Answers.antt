use Rattle.kernel_reply.proofs.HandedOn.{jobs_say_the_same, refusals_say_the_same}
use Rattle.kernel_reply.proofs.laws.texts_are_handed_on_law.Goals as goal

pub returns-clause-jobs : goal.returns-clause-jobs
returns-clause-jobs c = jobs_say_the_same

pub returns-clause-refusals : goal.returns-clause-refusals
returns-clause-refusals c = refusals_say_the_same
