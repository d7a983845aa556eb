use Rattle.std.proofs.Common.{◌≡◌, ◌++◌, drop}
use Rattle.janus_machine.specs.LinkedProcedure.{kinds_told}
use Rattle.janus_machine.proofs.linked_procedure.kinds_in_order.Given as goal

-- the kinds so far and those of the rest are those of all
abbrev pub invariant-loop-i : goal.invariant-loop-i
invariant-loop-i l = l.kinds.items ++ kinds_told (drop l.i l.parameters) ≡ kinds_told l.parameters
