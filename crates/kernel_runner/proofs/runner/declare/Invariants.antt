use Rattle.std.proofs.Common.{take, map}
use Rattle.janus_meaning.specs.World.{declare}
use Rattle.janus_syntax.specs.Tree.{declarations_view}
use Rattle.janus_syntax.specs.View.{plain_declaration}
use Rattle.janus_machine.specs.StoreState.{shown_store}
use Rattle.kernel_runner.specs.Runner.{Becomes}
use Rattle.kernel_runner.proofs.runner.declare.Given as goal

abbrev pub invariant-loop-i : goal.invariant-loop-i
invariant-loop-i g l = Becomes l.fn.store l.store (declare (take l.i (map plain_declaration (declarations_view l.declarations))) (shown_store l.fn.store))
