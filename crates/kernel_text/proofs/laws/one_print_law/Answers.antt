use Rattle.kernel_text.proofs.OnePrint.{text_is_print, has_one_print}
use Rattle.kernel_text.proofs.laws.one_print_law.Goals as goal

pub returns-clause-text : goal.returns-clause-text
returns-clause-text c = text_is_print

pub returns-clause-one : goal.returns-clause-one
returns-clause-one c = has_one_print
