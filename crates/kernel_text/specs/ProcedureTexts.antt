-- How a procedure is told: as the print of its tree, with the name of its local behind each `delocal`.
use Rattle.std.specs.Prelude.{ℕ, List}
use Rattle.janus_meaning.specs.Syntax.{Proc}
use Rattle.janus_syntax.specs.Printing.{printed_procedure}
use Rattle.janus_code.specs.ProcedureTrees.{procedure_tree}

-- the text of a procedure, as `procedure p(int x) x += 1`
abbrev pub procedure_text : Proc → List ℕ
procedure_text p = printed_procedure (procedure_tree p)
