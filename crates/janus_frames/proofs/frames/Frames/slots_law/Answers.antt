use Rattle.std.proofs.Common.{◌-◌, refl, subst}
use Rattle.std.specs.Prelude.{reverse}
use Rattle.janus_memory.specs.Memory.{val_at}
use Rattle.janus_frames.specs.Cells.{from}
use Rattle.janus_frames.specs.Calls.{given_back}
use Rattle.janus_frames.specs.FramesState.{FramesState}
use Rattle.janus_frames.specs.Shown.{IsStored, through, outer_count}
use Rattle.janus_frames.proofs.Following.{given-back-is, through-present}
use Rattle.janus_frames.proofs.frames.Frames.slots_law.Goals as goal

pub returns-clause-sight : goal.returns-clause-sight
returns-clause-sight g c =
    let a = c.self.inside in
    let m = a.memory in
    let t = a.top in
    let cs = reverse a.calls.items in
    let i = c.self.invariant.inside in
    subst (λ (h : FramesState). IsStored h.slots) c.self.view_is (from (val_at m) m.base, t - m.base, refl, i.frames.present)

pub returns-clause-shown : goal.returns-clause-shown
returns-clause-shown g c =
    let a = c.self.inside in
    let m = a.memory in
    let t = a.top in
    let cs = reverse a.calls.items in
    let i = c.self.invariant.inside in
    let v = val_at m in
    subst (λ (h : FramesState). IsStored (given_back h.slots h.callers)) c.self.view_is (
      through v (from v m.base) cs,
      outer_count (t - m.base) m.base cs,
      given-back-is v (from v m.base) m.base (t - m.base) cs i.frames.nested i.frames.present,
      through-present v (from v m.base) m.base (t - m.base) cs i.frames.nested i.frames.present,
    )
