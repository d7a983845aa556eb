use Rattle.kernel_message.proofs.Numbers.{answer_their_request}
use Rattle.kernel_message.proofs.laws.answer_their_request_law.Goals as goal

pub returns : goal.returns
returns c = answer_their_request
