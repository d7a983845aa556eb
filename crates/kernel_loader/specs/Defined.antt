-- Procedures that are lent, read as those of the meaning.
use Rattle.std.specs.Prelude.{List, map}
use Rattle.std.specs.Borrow.{Bor}
use Rattle.janus_meaning.specs.Syntax.{Proc}
use Rattle.janus_syntax.specs.Tree.{procedure_view}
use Rattle.janus_syntax.specs.View.{plain_procedure}
use Rattle.janus_syntax.specs.declared.tree.Procedure.{Procedure}

abbrev pub in_a_row : List (Bor Procedure) → List Proc
in_a_row all = map (λ p. plain_procedure (procedure_view p.now)) all
