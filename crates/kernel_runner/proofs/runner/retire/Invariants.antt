use Rattle.janus_meaning.specs.World.{dropped}
use Rattle.janus_machine.specs.StoreState.{shown_store}
use Rattle.kernel_runner.specs.Runner.{Becomes}
use Rattle.kernel_runner.proofs.runner.retire.Given as goal

abbrev pub invariant-loop-i : goal.invariant-loop-i
invariant-loop-i g l = Becomes l.fn.store l.store (dropped l._i (shown_store l.fn.store))
