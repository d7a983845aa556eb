use Rattle.kernel_message.proofs.Numbers.{next_counts_messages}
use Rattle.kernel_message.proofs.laws.next_counts_messages_law.Goals as goal

pub returns : goal.returns
returns c = next_counts_messages
