use Rattle.std.proofs.Common.{◌≡◌, take}
use Rattle.janus_syntax.specs.Tree.{procedures_view}
use Rattle.janus_code.proofs.inverse.same_procedures.Given as goal

abbrev pub invariant-loop-procedure : goal.invariant-loop-procedure
invariant-loop-procedure l = procedures_view l.copies.items ≡ procedures_view (take l.procedure-index l.procedures)
