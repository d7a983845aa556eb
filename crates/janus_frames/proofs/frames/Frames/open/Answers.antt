use Rattle.std.proofs.Common.{◌≡◌, ◌+◌, ◌-◌, length, set, ap, ◌∙◌, sym, subst, arith, w32, to_z}
use Rattle.std.proofs.Common.{of_z}
use Rattle.std.specs.Prelude.{reverse}
use Rattle.std.proofs.lemmas.Int.{to_z-of_z}
use Rattle.janus_meaning.specs.Store.{Num, Slot}
use Rattle.janus_meaning.specs.World.{size_of}
use Rattle.janus_slots.specs.Slots.{slot}
use Rattle.janus_memory.specs.Memory.{MemoryState}
use Rattle.janus_memory.specs.Memory.{with_number, reached}
use Rattle.janus_frames.specs.FramesState.{FramesState, names_there, with_names}
use Rattle.janus_frames.specs.Inside.{frames_in, AreIn}
use Rattle.janus_frames.proofs.Opening as opening
use Rattle.janus_frames.proofs.Sight as sight
use Rattle.janus_frames.proofs.frames.Frames.open.Goals as goal

pub overflow_add-self-inside : goal.overflow_add-self-inside
overflow_add-self-inside g c =
    let a = c.self.inside in
    let m = a.memory in
    let t = a.top in
    let cs = reverse a.calls.items in
    let i = c.self.invariant.inside in
    let l = i.long in omega (arith, l, c.law.ensures.low)

pub reach-requires : goal.reach-requires
reach-requires g c =
    let a = c.self.inside in
    let m = a.memory in
    let t = a.top in
    let cs = reverse a.calls.items in
    let i = c.self.invariant.inside in
    let names = sight.all-names m t cs i in
    let now = ap names_there c.self.view_is in
    let room = ap (λ (h : FramesState). h.room) c.self.view_is in
    omega (arith, names, now, room, c.requires)

pub invariant_of-self : goal.invariant_of-self
invariant_of-self g c =
    let a = c.self.inside in
    let m = a.memory in
    let t = a.top in
    let cs = reverse a.calls.items in
    let i = c.self.invariant.inside in
    let r = c.reach.new.self in
    let o = i.frames.order in
    let at : r.base + (t - c.base.result) ≡ t = omega (arith, o, c.base.ensures, ap (λ (m : MemoryState). m.base) c.reach.ensures) in
    let wide = subst (λ (r : MemoryState). length r.contents ≡ length r.numbers) c.reach.ensures c.law-2.ensures.contents in
    let z : to_z w32 (of_z w32 c.args.number) ≡ c.args.number = to_z-of_z w32 c.args.number c.ranges.number in
    let new : c.put_number.new.self ≡ with_number (reached m (t + 1)) t c.args.number = c.put_number.ensures
    ∙ ap (λ p. with_number r p (to_z w32 (of_z w32 c.args.number))) at
    ∙ ap (λ r. with_number r t (to_z w32 (of_z w32 c.args.number))) c.reach.ensures ∙ ap (with_number (reached m (t + 1)) t) z in
    record {
      inside = subst (λ n. AreIn n (t + 1) cs) (sym new) (opening.more-in m t cs i (set (reached m (t + 1)).numbers t c.args.number) (reached m
          (t + 1)).contents m.spare (Num c.args.number) (opening.number-opened m t cs i wide c.args.number));
      call_room = c.self.invariant.call_room;
    }

pub returns : goal.returns
returns g c =
    let a = c.self.inside in
    let m = a.memory in
    let t = a.top in
    let cs = reverse a.calls.items in
    let i = c.self.invariant.inside in
    let r = c.reach.new.self in
    let o = i.frames.order in
    let at : r.base + (t - c.base.result) ≡ t = omega (arith, o, c.base.ensures, ap (λ (m : MemoryState). m.base) c.reach.ensures) in
    let wide = subst (λ (r : MemoryState). length r.contents ≡ length r.numbers) c.reach.ensures c.law-2.ensures.contents in
    let z : to_z w32 (of_z w32 c.args.number) ≡ c.args.number = to_z-of_z w32 c.args.number c.ranges.number in
    let new : c.put_number.new.self ≡ with_number (reached m (t + 1)) t c.args.number = c.put_number.ensures
    ∙ ap (λ p. with_number r p (to_z w32 (of_z w32 c.args.number))) at
    ∙ ap (λ r. with_number r t (to_z w32 (of_z w32 c.args.number))) c.reach.ensures ∙ ap (with_number (reached m (t + 1)) t) z in
    ap (λ n. frames_in n (t + 1) cs) new ∙ opening.more-state m t cs i (set (reached m (t + 1)).numbers t c.args.number) (reached m
    (t + 1)).contents m.spare (Num c.args.number) (opening.number-opened m t cs i wide c.args.number)
    ∙ ap (λ (h : FramesState). with_names (Slot (slot (size_of h.slots)) (Num c.args.number) h.slots) h) c.self.view_is
