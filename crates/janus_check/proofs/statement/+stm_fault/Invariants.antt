use Rattle.std.proofs.Common.{◌≡◌, drop}
use Rattle.janus_syntax.specs.Tree.{block_view}
use Rattle.janus_check.specs.Fault.{first_from}
use Rattle.janus_check.specs.Check.{block_faults}
use Rattle.janus_check.specs.Sight.{in_sight, heads_seen}
use Rattle.janus_syntax.specs.View.{stm_of, block_of}
use Rattle.janus_check.proofs.Weights.{stm_weight, block_weight}
use Rattle.janus_check.proofs.statement.+stm_fault.Given as goal

-- what is found from here on is what is found from the beginning
abbrev pub invariant-block_fault-loop-i : goal.invariant-block_fault-loop-i
invariant-block_fault-loop-i g l =
    first_from l.next (block_faults (heads_seen l.sight) (in_sight l.sight) (block_view (drop l.i l.statements)))
    ≡ first_from l.fn.first (block_faults (heads_seen l.sight) (in_sight l.sight) (block_view l.statements))

abbrev pub decreases-block_fault : goal.decreases-block_fault
decreases-block_fault g l = block_weight (block_of l.statements.now)

abbrev pub decreases-stm_fault : goal.decreases-stm_fault
decreases-stm_fault g l = stm_weight (stm_of l.stm.now)
