use Rattle.std.proofs.Common.{ap, ◌∙◌, sym}
use Rattle.janus_syntax.specs.Tree.{procedure_view}
use Rattle.janus_syntax.specs.Printing.{printed_procedure}
use Rattle.kernel_text.proofs.OnePrint.{text_is_print}
use Rattle.kernel_text.proofs.procedures.procedure_text.Goals as goal

pub returns : goal.returns
returns c =
    c.in-Ok.ensures.text ∙ ap printed_procedure c.in_ok-procedure.ensures ∙ sym (text_is_print (procedure_view c.args.procedure.now))
