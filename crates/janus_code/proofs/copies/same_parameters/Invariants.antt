use Rattle.std.proofs.Common.{◌≡◌, take}
use Rattle.janus_syntax.specs.Tree.{parameters_view}
use Rattle.janus_code.proofs.copies.same_parameters.Given as goal

abbrev pub invariant-loop-parameter : goal.invariant-loop-parameter
invariant-loop-parameter l = parameters_view l.copies.items ≡ parameters_view (take l.parameter-index l.parameters)
