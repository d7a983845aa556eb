use Rattle.std.proofs.Common.{◌≡◌, ◌+◌, ◌-◌, ap, ◌∙◌, sym, subst, arith}
use Rattle.std.specs.Prelude.{reverse}
use Rattle.janus_memory.specs.Memory.{MemoryState, val_at}
use Rattle.janus_frames.specs.Calls.{names_lent}
use Rattle.janus_frames.specs.FramesState.{FramesState}
use Rattle.janus_frames.specs.Inside.{AreIn, frames_in}
use Rattle.janus_frames.proofs.Holding.{names-below}
use Rattle.janus_frames.proofs.Reserving.{told-in}
use Rattle.janus_frames.proofs.frames.Frames.tell_names.Goals as goal

pub overflow_add-base : goal.overflow_add-base
overflow_add-base g c =
    let o = c.self.invariant.inside.frames.order in
    let l = c.self.invariant.inside.long in
    omega (arith, o, l, c.law.ensures.low, c.base-base.ensures)

pub invariant_of-self : goal.invariant_of-self
invariant_of-self g c =
    let a = c.self.inside in
    let m = a.memory in
    let t = a.top in
    let cs = reverse a.calls.items in
    let i = c.self.invariant.inside in
    record {
      inside = subst (λ n. AreIn n t cs) (sym c.tell_results.ensures) (told-in m t cs (c.base-base.result + c.args.names) i);
      call_room = c.self.invariant.call_room;
    }

pub returns : goal.returns
returns g c =
    let a = c.self.inside in
    let m = a.memory in
    let t = a.top in
    let cs = reverse a.calls.items in
    let i = c.self.invariant.inside in
    let names = names-below (val_at m) m.base (t - m.base) cs i.frames.nested in
    let e : c.base-base.result + c.args.names ≡ names_lent (frames_in m t cs).callers + c.args.names = omega (arith, names, c.base-base.ensures) in
    ap (λ n. frames_in n t cs) c.tell_results.ensures
    ∙ ap (λ r. record (frames_in m t cs) { results = r }) e
    ∙ ap (λ (h : FramesState). record h { results = names_lent h.callers + c.args.names }) c.self.view_is
