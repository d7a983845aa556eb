use Rattle.kernel_machine.proofs.Texts.{syntax_refusal}
use Rattle.kernel_machine.proofs.outcome.Refusal.of_syntax.Goals as goal

pub returns-in_default : goal.returns-in_default
returns-in_default c = syntax_refusal c.args.fault c.in_default.not-Memory
