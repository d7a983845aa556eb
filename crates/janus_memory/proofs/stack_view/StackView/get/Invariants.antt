use Rattle.std.proofs.Common.{◌≡◌, drop}
use Rattle.cell_pool.specs.Lent.{values_of}
use Rattle.janus_memory.specs.Stacks.{held}
use Rattle.janus_memory.proofs.stack_view.StackView.get.Given as goal

abbrev pub invariant-loop-i : goal.invariant-loop-i
invariant-loop-i l = values_of l.values ≡ drop l._i (held l.fn.self)
