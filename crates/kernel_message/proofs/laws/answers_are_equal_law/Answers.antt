use Rattle.kernel_message.proofs.Same.{answers_are_equal}
use Rattle.kernel_message.proofs.laws.answers_are_equal_law.Goals as goal

pub returns : goal.returns
returns c = answers_are_equal
