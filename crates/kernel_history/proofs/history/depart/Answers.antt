use Rattle.kernel_history.proofs.Standing.{idle_in_time}
use Rattle.kernel_history.proofs.history.depart.Goals as goal

pub returns-then-is_over-clause-kept : goal.returns-then-is_over-clause-kept
returns-then-is_over-clause-kept g c = idle_in_time c.args.tree.now c.args.runner.now c.requires.idle
