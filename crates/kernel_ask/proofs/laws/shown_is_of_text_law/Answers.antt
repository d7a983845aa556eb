use Rattle.kernel_ask.proofs.ShownTexts.{shown_is_of_text}
use Rattle.kernel_ask.proofs.laws.shown_is_of_text_law.Goals as goal

pub returns : goal.returns
returns c = shown_is_of_text
