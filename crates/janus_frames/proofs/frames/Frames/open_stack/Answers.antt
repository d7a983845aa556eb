use Rattle.std.proofs.Common.{◌≡◌, ◌+◌, ◌-◌, [], length, set, refl, ap, ◌∙◌, sym, subst, arith}
use Rattle.std.specs.Prelude.{reverse}
use Rattle.janus_meaning.specs.Store.{Stk, Slot}
use Rattle.janus_meaning.specs.World.{size_of}
use Rattle.janus_slots.specs.Slots.{slot}
use Rattle.janus_memory.specs.Memory.{MemoryState, HasStack}
use Rattle.janus_memory.specs.Memory.{reached, opened}
use Rattle.janus_frames.specs.FramesState.{FramesState, names_there, stacks_there, with_names}
use Rattle.janus_frames.specs.Inside.{frames_in, AreIn}
use Rattle.janus_frames.proofs.Opening as opening
use Rattle.janus_frames.proofs.Sight as sight
use Rattle.janus_frames.proofs.frames.Frames.open_stack.Goals as goal

pub overflow_add-self-inside : goal.overflow_add-self-inside
overflow_add-self-inside g c =
    let a = c.self.inside in
    let m = a.memory in
    let t = a.top in
    let cs = reverse a.calls.items in
    let i = c.self.invariant.inside in
    let l = i.long in omega (arith, l, c.law.ensures.low)

pub reach-requires : goal.reach-requires
reach-requires g c =
    let a = c.self.inside in
    let m = a.memory in
    let t = a.top in
    let cs = reverse a.calls.items in
    let i = c.self.invariant.inside in
    let names = sight.all-names m t cs i in
    let now = ap names_there c.self.view_is in
    let room = ap (λ (h : FramesState). h.room) c.self.view_is in
    omega (arith, names, now, room, c.requires.room)

pub invariant_of-self : goal.invariant_of-self
invariant_of-self g c =
    let a = c.self.inside in
    let m = a.memory in
    let t = a.top in
    let cs = reverse a.calls.items in
    let i = c.self.invariant.inside in
    let r = c.reach.new.self in
    let o = i.frames.order in
    let at : r.base + (t - c.base.result) ≡ t = omega (arith, o, c.base.ensures, ap (λ (m : MemoryState). m.base) c.reach.ensures) in
    let wide = subst (λ (r : MemoryState). length r.contents ≡ length r.numbers) c.reach.ensures c.law-2.ensures.contents in
    let left : m.spare - 1 + 1 ≡ m.spare = omega (arith, i.counted.stacks, ap stacks_there c.self.view_is, c.requires.few) in
    let new : c.open_stack.new.self ≡ record (reached m (t + 1)) { contents = set (reached m (t + 1)).contents t (HasStack []); spare = m.spare - 1 } =
    c.open_stack.ensures ∙ ap (opened r) at ∙ ap (λ r. opened r t) c.reach.ensures ∙ opening.stack-opened m t cs i wide in
    record {
      inside = subst (λ n. AreIn n (t + 1) cs) (sym new) (opening.more-in m t cs i (reached m (t + 1)).numbers (set (reached m (t + 1)).contents t
          (HasStack [])) (m.spare - 1) (Stk []) (opening.content-opened m t cs i wide (HasStack []) (Stk []) refl tt refl refl (m.spare - 1) left));
      call_room = c.self.invariant.call_room;
    }

pub returns : goal.returns
returns g c =
    let a = c.self.inside in
    let m = a.memory in
    let t = a.top in
    let cs = reverse a.calls.items in
    let i = c.self.invariant.inside in
    let r = c.reach.new.self in
    let o = i.frames.order in
    let at : r.base + (t - c.base.result) ≡ t = omega (arith, o, c.base.ensures, ap (λ (m : MemoryState). m.base) c.reach.ensures) in
    let wide = subst (λ (r : MemoryState). length r.contents ≡ length r.numbers) c.reach.ensures c.law-2.ensures.contents in
    let left : m.spare - 1 + 1 ≡ m.spare = omega (arith, i.counted.stacks, ap stacks_there c.self.view_is, c.requires.few) in
    let new : c.open_stack.new.self ≡ record (reached m (t + 1)) { contents = set (reached m (t + 1)).contents t (HasStack []); spare = m.spare - 1 } =
    c.open_stack.ensures ∙ ap (opened r) at ∙ ap (λ r. opened r t) c.reach.ensures ∙ opening.stack-opened m t cs i wide in
    ap (λ n. frames_in n (t + 1) cs) new ∙ opening.more-state m t cs i (reached m (t + 1)).numbers (set (reached m (t + 1)).contents t (HasStack []))
    (m.spare - 1) (Stk []) (opening.content-opened m t cs i wide (HasStack []) (Stk []) refl tt refl refl (m.spare - 1) left)
    ∙ ap (λ (h : FramesState). with_names (Slot (slot (size_of h.slots)) (Stk []) h.slots) h) c.self.view_is
