-- The print of a closed tree is that of the procedure without places.
use Rattle.std.proofs.Common.{ap, ◌∙◌, sym}
use Rattle.janus_code.proofs.OnePrint.{one_print}
use Rattle.kernel_text.specs.Laws.{TextIsPrint, HasOnePrint}
use Rattle.kernel_text.specs.ProcedureTexts.{procedure_text}

pub text_is_print : TextIsPrint
text_is_print = one_print

pub has_one_print : HasOnePrint
has_one_print p q e = sym (text_is_print p) ∙ ap procedure_text e ∙ text_is_print q
