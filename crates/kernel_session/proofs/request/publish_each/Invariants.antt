use Rattle.std.proofs.Common.{◌≡◌, ◌++◌, map}
use Rattle.std.specs.Vec.Iter.{into_iter_items}
use Rattle.jupyter_msg.specs.Message.{frames_of}
use Rattle.kernel_session.specs.Call.{Leads, Published}
use Rattle.kernel_session.proofs.request.publish_each.Given as goal

abbrev pub invariant-loop-broadcast : goal.invariant-loop-broadcast
invariant-loop-broadcast g l =
    Leads g.D.Desk.leads l.fn.desk (map (λ b. Published (frames_of l.key b)) l.yielded) l.desk
    × (l.fn.broadcasts.items ≡ l.yielded ++ into_iter_items l.broadcast-iterator)
