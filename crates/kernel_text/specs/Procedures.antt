-- The names of procedures, and the procedure that a name calls.
use Rattle.std.specs.Prelude.{◌≡◌, List, map, Option, Some, None}
use Rattle.std.specs.Borrow.{Bor}
use Rattle.janus_meaning.specs.Fault.{Res, Fine, Bad, Broken}
use Rattle.janus_meaning.specs.Syntax.{Name, Proc}
use Rattle.janus_syntax.specs.Tree.{procedure_view}
use Rattle.janus_syntax.specs.View.{plain_procedure}
use Rattle.janus_syntax.specs.declared.tree.Procedure.{Procedure}

-- the names of procedures
abbrev pub procedure_names : List Proc → List Name
procedure_names ps = map (λ p. p.name) ps

-- what is lent is what was found among the procedures
abbrev pub IsNewest : Res Proc → Option (Bor Procedure) → Type 0
IsNewest r (Some p) = r ≡ Fine (plain_procedure (procedure_view p.now))
IsNewest r None = r ≡ Bad Broken
