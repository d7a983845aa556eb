use Rattle.std.proofs.Common.{◌≡◌, sym, subst}
use Rattle.std.specs.Prelude.{reverse}
use Rattle.janus_frames.specs.Inside.{AreIn}
use Rattle.janus_frames.proofs.Reserving.{room-in}
use Rattle.janus_frames.proofs.frames.Frames.reserve.Goals as goal

pub invariant_of-self : goal.invariant_of-self
invariant_of-self g c =
    let a = c.self.inside in
    let m = a.memory in
    let t = a.top in
    let cs = reverse a.calls.items in
    let i = c.self.invariant.inside in
    let new : c.reserve.new.self ≡ record m { room = c.reserve.new.self.room } = c.reserve.ensures.same in
    record { inside = subst (λ n. AreIn n t cs) (sym new) (room-in m t cs c.reserve.new.self.room i); call_room = c.self.invariant.call_room }
