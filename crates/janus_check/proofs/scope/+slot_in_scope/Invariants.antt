use Rattle.janus_check.proofs.SlotLemmas.{depth_of}
use Rattle.janus_check.proofs.scope.+slot_in_scope.Given as goal

abbrev pub decreases-slot_in_scope : goal.decreases-slot_in_scope
decreases-slot_in_scope g l = depth_of l.scope.now
