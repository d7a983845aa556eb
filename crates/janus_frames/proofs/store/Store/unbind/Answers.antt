use Rattle.std.proofs.Common.{sym, subst}
use Rattle.janus_frames.specs.Calls.{AreAlone}
use Rattle.janus_frames.specs.StoreState.{HasParametersAlone}
use Rattle.janus_frames.proofs.Sizes as sizes
use Rattle.janus_frames.proofs.store.Store.unbind.Goals as goal

pub invariant_of-self : goal.invariant_of-self
invariant_of-self g c =
    let a = c.self.inside in
    let i = c.self.invariant in
    let alone : AreAlone a.frames.callers a.frames.slots = subst HasParametersAlone (sym c.self.view_is) c.requires in
    let s = c.slots_law.ensures.sight in
    sizes.held-left a.frames a.declared a.texts i c.leave.new.self alone s.0 s.1 s.2 c.leave.ensures.left c.leave.ensures.room
