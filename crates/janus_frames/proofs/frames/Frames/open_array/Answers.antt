use Rattle.std.proofs.Common.{◌≡◌, ◌+◌, length, set, refl, ap, ◌∙◌, sym, subst, arith}
use Rattle.std.specs.Prelude.{reverse, OnErr, Ok, Err}
use Rattle.std.specs.declared.result.Result.{Result}
use Rattle.janus_meaning.specs.Store.{Arr, Slot}
use Rattle.janus_meaning.specs.World.{size_of}
use Rattle.janus_slots.specs.Slots.{slot}
use Rattle.janus_memory.specs.Memory.{MemoryState, HasArray}
use Rattle.janus_memory.specs.Memory.{with_content, reached}
use Rattle.janus_frames.specs.FramesState.{FramesState, names_there, with_names}
use Rattle.janus_frames.specs.Inside.{frames_in, AreIn}
use Rattle.janus_frames.proofs.Opening as opening
use Rattle.janus_frames.proofs.Sight as sight
use Rattle.janus_frames.proofs.frames.Frames.open_array.Goals as goal

on_err : {T E P : Type 0} (r : Result T E) → P → OnErr r P
on_err (Ok x) h = tt
on_err (Err x) h = h

pub overflow_add-self-inside : goal.overflow_add-self-inside
overflow_add-self-inside g c =
    let a = c.self.inside in
    let m = a.memory in
    let t = a.top in
    let cs = reverse a.calls.items in
    let i = c.self.invariant.inside in
    let l = i.long in omega (arith, l, c.law.ensures.low)

pub reach-requires : goal.reach-requires
reach-requires g c =
    let a = c.self.inside in
    let m = a.memory in
    let t = a.top in
    let cs = reverse a.calls.items in
    let i = c.self.invariant.inside in
    let names = sight.all-names m t cs i in
    let now = ap names_there c.self.view_is in
    let room = ap (λ (h : FramesState). h.room) c.self.view_is in
    omega (arith, names, now, room, c.requires)

pub invariant_of-self-2 : goal.invariant_of-self-2
invariant_of-self-2 g c =
    let a = c.self.inside in
    let m = a.memory in
    let t = a.top in
    let cs = reverse a.calls.items in
    let i = c.self.invariant.inside in
    let r = c.reach.new.self in
    let o = i.frames.order in
    let wide = subst (λ (r : MemoryState). length r.contents ≡ length r.numbers) c.reach.ensures c.law-2.ensures.contents in
    let new : c.put_array.new.self ≡ record (reached m (t + 1)) { contents = set (reached m (t + 1)).contents t (HasArray c.args.items.items) } =
    c.in_ok-put_array.ensures.ok ∙ ap (λ r. with_content r t (HasArray c.args.items.items)) c.reach.ensures in
    record {
      inside = subst (λ n. AreIn n (t + 1) cs) (sym new) (opening.more-in m t cs i (reached m (t + 1)).numbers (set (reached m (t + 1)).contents t
          (HasArray c.args.items.items)) m.spare (Arr c.args.items.items) (opening.content-opened m t cs i wide (HasArray c.args.items.items)
          (Arr c.args.items.items) refl tt refl refl m.spare (omega arith)));
      call_room = c.self.invariant.call_room;
    }

pub returns-clause-ok : goal.returns-clause-ok
returns-clause-ok g c =
    let a = c.self.inside in
    let m = a.memory in
    let t = a.top in
    let cs = reverse a.calls.items in
    let i = c.self.invariant.inside in
    let r = c.reach.new.self in
    let o = i.frames.order in
    let wide = subst (λ (r : MemoryState). length r.contents ≡ length r.numbers) c.reach.ensures c.law-2.ensures.contents in
    let new : c.put_array.new.self ≡ record (reached m (t + 1)) { contents = set (reached m (t + 1)).contents t (HasArray c.args.items.items) } =
    c.in_ok-put_array.ensures.ok ∙ ap (λ r. with_content r t (HasArray c.args.items.items)) c.reach.ensures in
    ap (λ n. frames_in n (t + 1) cs) new ∙ opening.more-state m t cs i (reached m (t + 1)).numbers (set (reached m (t + 1)).contents t
    (HasArray c.args.items.items)) m.spare (Arr c.args.items.items) (opening.content-opened m t cs i wide (HasArray c.args.items.items)
    (Arr c.args.items.items) refl tt refl refl m.spare (omega arith))
    ∙ ap (λ (h : FramesState). with_names (Slot (slot (size_of h.slots)) (Arr c.args.items.items) h.slots) h) c.self.view_is

pub invariant_of-self : goal.invariant_of-self
invariant_of-self g c =
    let a = c.self.inside in
    let m = a.memory in
    let t = a.top in
    let cs = reverse a.calls.items in
    let i = c.self.invariant.inside in
    let new : c.put_array.new.self ≡ (reached m (t + 1)) = c.in_err-put_array.ensures.err ∙ c.reach.ensures in
    record { inside = subst (λ n. AreIn n t cs) (sym new) (opening.reach-in m t (t + 1) cs i); call_room = c.self.invariant.call_room }

pub returns-in_err-put_array-clause-err : goal.returns-in_err-put_array-clause-err
returns-in_err-put_array-clause-err g c =
    let a = c.self.inside in
    let m = a.memory in
    let t = a.top in
    let cs = reverse a.calls.items in
    let i = c.self.invariant.inside in
    let new : c.put_array.new.self ≡ (reached m (t + 1)) = c.in_err-put_array.ensures.err ∙ c.reach.ensures in
    let w = ap (λ n. frames_in n t cs) new ∙ opening.reach-state m t (t + 1) cs i ∙ c.self.view_is in
    on_err c.from_residual.result w
