use Rattle.kernel_machine.proofs.Texts.{check_refusal}
use Rattle.kernel_machine.proofs.outcome.Refusal.of_check.Goals as goal

pub returns-in_default : goal.returns-in_default
returns-in_default c = check_refusal c.args.fault c.in_default.not-Memory
