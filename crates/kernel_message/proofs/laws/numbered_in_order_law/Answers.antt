use Rattle.kernel_message.proofs.Numbers.{numbered_in_order}
use Rattle.kernel_message.proofs.laws.numbered_in_order_law.Goals as goal

pub returns : goal.returns
returns c = numbered_in_order
