-- What holds of the texts of procedures.
use Rattle.std.specs.Prelude.{◌≡◌}
use Rattle.janus_syntax.specs.Tree.{Procedure}
use Rattle.janus_syntax.specs.View.{plain_procedure}
use Rattle.janus_syntax.specs.Printing.{printed_procedure}
use Rattle.janus_code.specs.Closed.{closed_procedure}
use Rattle.kernel_text.specs.ProcedureTexts.{procedure_text}

-- The text of a procedure is the print of each tree that is this procedure, places aside, with the local's name behind each `delocal`.
abbrev pub TextIsPrint : Type 0
TextIsPrint = (q : Procedure) → procedure_text (plain_procedure q) ≡ printed_procedure (closed_procedure q)

-- Two trees that are one procedure, places and the names behind `delocal` aside, have one such print.
abbrev pub HasOnePrint : Type 0
HasOnePrint = (p q : Procedure) → plain_procedure p ≡ plain_procedure q → printed_procedure (closed_procedure p) ≡ printed_procedure (closed_procedure q)
