use Rattle.std.proofs.Common.{◌≡◌, ◌+◌, ◌-◌, ◌≤◌, ℕ, [], ◌∷◌, length, map, ap, ◌∙◌, sym, subst, arith}
use Rattle.std.specs.Prelude.{reverse}
use Rattle.std.proofs.lemmas.List.{reverse-append, length-reverse}
use Rattle.janus_meaning.specs.Fault.{Fine}
use Rattle.janus_meaning.specs.Store.{pull}
use Rattle.janus_slots.specs.Slots.{slot}
use Rattle.janus_memory.specs.Memory.{MemoryState, Plain, val_at, content_at}
use Rattle.janus_memory.specs.Memory.{reached, values_among}
use Rattle.janus_frames.specs.Cells.{from, AreBelow, AreApart}
use Rattle.janus_frames.specs.Calls.{slots_of, Enters}
use Rattle.janus_frames.specs.FramesState.{FramesState, names_there}
use Rattle.janus_frames.specs.Inside.{frames_in, AreIn}
use Rattle.janus_frames.specs.declared.frames.OpenCall.{OpenCall}
use Rattle.janus_frames.proofs.Calling.{AreMoved}
use Rattle.janus_frames.proofs.Holding.{many-callers}
use Rattle.janus_frames.proofs.Leaving as leaving
use Rattle.janus_frames.proofs.Opening as opening
use Rattle.janus_frames.proofs.Reading.{can-lend}
use Rattle.janus_frames.proofs.Sight as sight
use Rattle.janus_frames.proofs.frames.Frames.enter.Goals as goal

pub overflow_add-self-inside : goal.overflow_add-self-inside
overflow_add-self-inside g c =
    let a = c.self.inside in
    let m = a.memory in
    let t = a.top in
    let cs = reverse a.calls.items in
    let i = c.self.invariant.inside in
    let xs = slots_of c.args.args.now in
    let can : pull (map slot xs) (frames_in m t cs).slots ≡ Fine c.requires.found.0 =
    ap (λ (h : FramesState). pull (map slot xs) h.slots) c.self.view_is ∙ c.requires.found.1 in
    let ok = can-lend (from (val_at m) m.base) (t - m.base) xs c.requires.found.0 can in
    let slice : c.slots-slots.result.now ≡ xs = c.slots-slots.ensures in
    let many = ap length slice in
    let long = i.long in
    let o = i.frames.order in
    omega (arith, many, long, c.law.ensures.low, c.slots-slots.result.now)

pub reach-requires : goal.reach-requires
reach-requires g c =
    let a = c.self.inside in
    let m = a.memory in
    let t = a.top in
    let cs = reverse a.calls.items in
    let i = c.self.invariant.inside in
    let xs = slots_of c.args.args.now in
    let can : pull (map slot xs) (frames_in m t cs).slots ≡ Fine c.requires.found.0 =
    ap (λ (h : FramesState). pull (map slot xs) h.slots) c.self.view_is ∙ c.requires.found.1 in
    let ok = can-lend (from (val_at m) m.base) (t - m.base) xs c.requires.found.0 can in
    let slice : c.slots-slots.result.now ≡ xs = c.slots-slots.ensures in
    let many = ap length slice in
    let long = i.long in
    let o = i.frames.order in
    let names = sight.all-names m t cs i in
    let now = ap names_there c.self.view_is in
    let room = ap (λ (h : FramesState). h.room) c.self.view_is in
    omega (arith, names, now, room, many, c.requires.room)

pub lend-requires-clause-order : goal.lend-requires-clause-order
lend-requires-clause-order g c =
    let a = c.self.inside in
    let m = a.memory in
    let t = a.top in
    let cs = reverse a.calls.items in
    let i = c.self.invariant.inside in
    let xs = slots_of c.args.args.now in
    let can : pull (map slot xs) (frames_in m t cs).slots ≡ Fine c.requires.found.0 =
    ap (λ (h : FramesState). pull (map slot xs) h.slots) c.self.view_is ∙ c.requires.found.1 in
    let ok = can-lend (from (val_at m) m.base) (t - m.base) xs c.requires.found.0 can in
    let slice : c.slots-slots.result.now ≡ xs = c.slots-slots.ensures in
    let many = ap length slice in
    let long = i.long in
    let o = i.frames.order in
    omega (arith, o, c.base-base.ensures)

pub lend-requires-clause-room : goal.lend-requires-clause-room
lend-requires-clause-room g c =
    let a = c.self.inside in
    let m = a.memory in
    let t = a.top in
    let cs = reverse a.calls.items in
    let i = c.self.invariant.inside in
    let xs = slots_of c.args.args.now in
    let can : pull (map slot xs) (frames_in m t cs).slots ≡ Fine c.requires.found.0 =
    ap (λ (h : FramesState). pull (map slot xs) h.slots) c.self.view_is ∙ c.requires.found.1 in
    let ok = can-lend (from (val_at m) m.base) (t - m.base) xs c.requires.found.0 can in
    let slice : c.slots-slots.result.now ≡ xs = c.slots-slots.ensures in
    let many = ap length slice in
    let long = i.long in
    let o = i.frames.order in
    let l = opening.reach-long m (t + length c.slots-slots.result.now) in
    omega (arith, l, ap (λ (r : MemoryState). length r.numbers) c.reach.ensures)

pub lend-requires-clause-low : goal.lend-requires-clause-low
lend-requires-clause-low g c =
    let a = c.self.inside in
    let m = a.memory in
    let t = a.top in
    let cs = reverse a.calls.items in
    let i = c.self.invariant.inside in
    let xs = slots_of c.args.args.now in
    let can : pull (map slot xs) (frames_in m t cs).slots ≡ Fine c.requires.found.0 =
    ap (λ (h : FramesState). pull (map slot xs) h.slots) c.self.view_is ∙ c.requires.found.1 in
    let ok = can-lend (from (val_at m) m.base) (t - m.base) xs c.requires.found.0 can in
    let slice : c.slots-slots.result.now ≡ xs = c.slots-slots.ensures in
    let many = ap length slice in
    let long = i.long in
    let o = i.frames.order in
    subst (λ b. AreBelow (t - b) c.slots-slots.result.now) (sym c.base-base.ensures) (subst (AreBelow (t - m.base)) (sym slice) ok.0)

pub lend-requires-clause-apart : goal.lend-requires-clause-apart
lend-requires-clause-apart g c =
    let a = c.self.inside in
    let m = a.memory in
    let t = a.top in
    let cs = reverse a.calls.items in
    let i = c.self.invariant.inside in
    let xs = slots_of c.args.args.now in
    let can : pull (map slot xs) (frames_in m t cs).slots ≡ Fine c.requires.found.0 =
    ap (λ (h : FramesState). pull (map slot xs) h.slots) c.self.view_is ∙ c.requires.found.1 in
    let ok = can-lend (from (val_at m) m.base) (t - m.base) xs c.requires.found.0 can in
    let slice : c.slots-slots.result.now ≡ xs = c.slots-slots.ensures in
    let many = ap length slice in
    let long = i.long in
    let o = i.frames.order in
    subst AreApart (sym slice) ok.1

pub lend-requires-clause-above : goal.lend-requires-clause-above
lend-requires-clause-above g c =
    let a = c.self.inside in
    let m = a.memory in
    let t = a.top in
    let cs = reverse a.calls.items in
    let i = c.self.invariant.inside in
    let xs = slots_of c.args.args.now in
    let can : pull (map slot xs) (frames_in m t cs).slots ≡ Fine c.requires.found.0 =
    ap (λ (h : FramesState). pull (map slot xs) h.slots) c.self.view_is ∙ c.requires.found.1 in
    let ok = can-lend (from (val_at m) m.base) (t - m.base) xs c.requires.found.0 can in
    let slice : c.slots-slots.result.now ≡ xs = c.slots-slots.ensures in
    let many = ap length slice in
    let long = i.long in
    let o = i.frames.order in
    λ p l. ap (λ (r : MemoryState). content_at r p) c.reach.ensures ∙ opening.reach-content m (t + length c.slots-slots.result.now) p ∙ i.above p l

pub push_reserved-requires : goal.push_reserved-requires
push_reserved-requires g c =
    let a = c.self.inside in
    let m = a.memory in
    let t = a.top in
    let cs = reverse a.calls.items in
    let i = c.self.invariant.inside in
    let xs = slots_of c.args.args.now in
    let can : pull (map slot xs) (frames_in m t cs).slots ≡ Fine c.requires.found.0 =
    ap (λ (h : FramesState). pull (map slot xs) h.slots) c.self.view_is ∙ c.requires.found.1 in
    let ok = can-lend (from (val_at m) m.base) (t - m.base) xs c.requires.found.0 can in
    let slice : c.slots-slots.result.now ≡ xs = c.slots-slots.ensures in
    let many = ap length slice in
    let long = i.long in
    let o = i.frames.order in
    let h = many-callers (val_at m) m.base cs in
    let n = ap (λ (h : FramesState). length h.callers) c.self.view_is in
    let l = length-reverse a.calls.items in
    let r = c.self.invariant.call_room in
    omega (arith, h, n, l, r, c.requires.calls)

pub invariant_of-self : goal.invariant_of-self
invariant_of-self g c =
    let a = c.self.inside in
    let m = a.memory in
    let t = a.top in
    let cs = reverse a.calls.items in
    let i = c.self.invariant.inside in
    let xs = slots_of c.args.args.now in
    let can : pull (map slot xs) (frames_in m t cs).slots ≡ Fine c.requires.found.0 =
    ap (λ (h : FramesState). pull (map slot xs) h.slots) c.self.view_is ∙ c.requires.found.1 in
    let ok = can-lend (from (val_at m) m.base) (t - m.base) xs c.requires.found.0 can in
    let slice : c.slots-slots.result.now ≡ xs = c.slots-slots.ensures in
    let many = ap length slice in
    let long = i.long in
    let o = i.frames.order in
    let r = c.reach.new.self in
    let n = c.lend.new.memory in
    let end = t + length c.slots-slots.result.now in
    let call : OpenCall = record { args = c.args.args.now; base = c.base-base.result } in
    let calls : reverse c.push_reserved.new.self.items ≡ call ∷ cs = ap reverse c.push_reserved.ensures.items ∙ reverse-append a.calls.items (call ∷ []) in
    let mid : (p : ℕ) → val_at r p ≡ val_at m p = λ p. ap (λ (r : MemoryState). val_at r p) c.reach.ensures ∙ opening.reach-value m end p in
    let moved : AreMoved (val_at m) (val_at n) m.base t xs =
    leaving.moved-front (val_at m) (val_at r) (val_at n) m.base t xs
    (subst (AreMoved (val_at r) (val_at n) m.base t) slice (subst (λ b. AreMoved (val_at r) (val_at n) b t c.slots-slots.result.now) c.base-base.ensures
    (record { before = c.lend.ensures.before; frame = c.lend.ensures.frame; moved = c.lend.ensures.moved }))) mid in
    let k = c.lend.ensures.alike in
    let spare : n.spare ≡ m.spare = k.spare ∙ ap (λ (r : MemoryState). r.spare) c.reach.ensures in
    let held : values_among n.contents ≡ values_among m.contents =
    k.values ∙ ap (λ (r : MemoryState). values_among r.contents) c.reach.ensures ∙ opening.reach-values m end in
    let size : length n.numbers ≡ length (reached m end).numbers = k.size ∙ ap (λ (r : MemoryState). length r.numbers) c.reach.ensures in
    let all : t + length xs ≤ length n.numbers = let q = opening.reach-long m end in omega (arith, size, q, many) in
    let above : (p : ℕ) → t + length xs ≤ p → content_at n p ≡ Plain = λ p l. c.lend.ensures.above p (omega (arith, l, many)) in
    let z : t + length xs ≡ end = ap (λ n. t + n) (sym many) in
    let memory : c.set_base.new.self ≡ record n { base = t } = c.set_base.ensures in
    let inside = leaving.entered-in m n t call cs i c.base-base.ensures c.requires.found.0 can moved spare held all above in
    record {
      inside = subst (λ n. AreIn n end (reverse c.push_reserved.new.self.items)) (sym memory)
          (subst (λ q. AreIn (record n { base = t }) q (reverse c.push_reserved.new.self.items)) z
          (subst (AreIn (record n { base = t }) (t + length xs)) (sym calls) inside));
      call_room = let r = c.self.invariant.call_room in omega (arith, r, c.push_reserved.ensures.capacity);
    }

pub returns-clause-entered : goal.returns-clause-entered
returns-clause-entered g c =
    let a = c.self.inside in
    let m = a.memory in
    let t = a.top in
    let cs = reverse a.calls.items in
    let i = c.self.invariant.inside in
    let xs = slots_of c.args.args.now in
    let can : pull (map slot xs) (frames_in m t cs).slots ≡ Fine c.requires.found.0 =
    ap (λ (h : FramesState). pull (map slot xs) h.slots) c.self.view_is ∙ c.requires.found.1 in
    let ok = can-lend (from (val_at m) m.base) (t - m.base) xs c.requires.found.0 can in
    let slice : c.slots-slots.result.now ≡ xs = c.slots-slots.ensures in
    let many = ap length slice in
    let long = i.long in
    let o = i.frames.order in
    let r = c.reach.new.self in
    let n = c.lend.new.memory in
    let end = t + length c.slots-slots.result.now in
    let call : OpenCall = record { args = c.args.args.now; base = c.base-base.result } in
    let calls : reverse c.push_reserved.new.self.items ≡ call ∷ cs = ap reverse c.push_reserved.ensures.items ∙ reverse-append a.calls.items (call ∷ []) in
    let mid : (p : ℕ) → val_at r p ≡ val_at m p = λ p. ap (λ (r : MemoryState). val_at r p) c.reach.ensures ∙ opening.reach-value m end p in
    let moved : AreMoved (val_at m) (val_at n) m.base t xs =
    leaving.moved-front (val_at m) (val_at r) (val_at n) m.base t xs
    (subst (AreMoved (val_at r) (val_at n) m.base t) slice (subst (λ b. AreMoved (val_at r) (val_at n) b t c.slots-slots.result.now) c.base-base.ensures
    (record { before = c.lend.ensures.before; frame = c.lend.ensures.frame; moved = c.lend.ensures.moved }))) mid in
    let k = c.lend.ensures.alike in
    let spare : n.spare ≡ m.spare = k.spare ∙ ap (λ (r : MemoryState). r.spare) c.reach.ensures in
    let held : values_among n.contents ≡ values_among m.contents =
    k.values ∙ ap (λ (r : MemoryState). values_among r.contents) c.reach.ensures ∙ opening.reach-values m end in
    let size : length n.numbers ≡ length (reached m end).numbers = k.size ∙ ap (λ (r : MemoryState). length r.numbers) c.reach.ensures in
    let all : t + length xs ≤ length n.numbers = let q = opening.reach-long m end in omega (arith, size, q, many) in
    let above : (p : ℕ) → t + length xs ≤ p → content_at n p ≡ Plain = λ p l. c.lend.ensures.above p (omega (arith, l, many)) in
    let z : t + length xs ≡ end = ap (λ n. t + n) (sym many) in
    let memory : c.set_base.new.self ≡ record n { base = t } = c.set_base.ensures in
    let e = leaving.entered-enters (val_at m) (val_at n) m.base t call cs i.frames c.base-base.ensures c.requires.found.0 can moved in
    let old = frames_in m t cs in
    let e1 = subst (λ q. Enters (map slot xs) old.slots old.callers (frames_in (record n { base = t }) q (call ∷ cs)).slots
    (frames_in (record n { base = t }) q (call ∷ cs)).callers) z e in
    let e2 = subst (λ cs. Enters (map slot xs) old.slots old.callers (frames_in (record n { base = t }) end cs).slots
    (frames_in (record n { base = t }) end cs).callers) (sym calls) e1 in
    let e3 = subst (λ n. Enters (map slot xs) old.slots old.callers (frames_in n end (reverse c.push_reserved.new.self.items)).slots
    (frames_in n end (reverse c.push_reserved.new.self.items)).callers) (sym memory) e2 in
    subst (λ (h : FramesState). Enters (map slot xs) h.slots h.callers (frames_in c.set_base.new.self end (reverse c.push_reserved.new.self.items)).slots
    (frames_in c.set_base.new.self end (reverse c.push_reserved.new.self.items)).callers) c.self.view_is e3

pub returns-clause-room : goal.returns-clause-room
returns-clause-room g c =
    let a = c.self.inside in
    let m = a.memory in
    let t = a.top in
    let cs = reverse a.calls.items in
    let i = c.self.invariant.inside in
    let xs = slots_of c.args.args.now in
    let can : pull (map slot xs) (frames_in m t cs).slots ≡ Fine c.requires.found.0 =
    ap (λ (h : FramesState). pull (map slot xs) h.slots) c.self.view_is ∙ c.requires.found.1 in
    let ok = can-lend (from (val_at m) m.base) (t - m.base) xs c.requires.found.0 can in
    let slice : c.slots-slots.result.now ≡ xs = c.slots-slots.ensures in
    let many = ap length slice in
    let long = i.long in
    let o = i.frames.order in
    let r = c.reach.new.self in
    let n = c.lend.new.memory in
    let end = t + length c.slots-slots.result.now in
    let call : OpenCall = record { args = c.args.args.now; base = c.base-base.result } in
    let calls : reverse c.push_reserved.new.self.items ≡ call ∷ cs = ap reverse c.push_reserved.ensures.items ∙ reverse-append a.calls.items (call ∷ []) in
    let mid : (p : ℕ) → val_at r p ≡ val_at m p = λ p. ap (λ (r : MemoryState). val_at r p) c.reach.ensures ∙ opening.reach-value m end p in
    let moved : AreMoved (val_at m) (val_at n) m.base t xs =
    leaving.moved-front (val_at m) (val_at r) (val_at n) m.base t xs
    (subst (AreMoved (val_at r) (val_at n) m.base t) slice (subst (λ b. AreMoved (val_at r) (val_at n) b t c.slots-slots.result.now) c.base-base.ensures
    (record { before = c.lend.ensures.before; frame = c.lend.ensures.frame; moved = c.lend.ensures.moved }))) mid in
    let k = c.lend.ensures.alike in
    let spare : n.spare ≡ m.spare = k.spare ∙ ap (λ (r : MemoryState). r.spare) c.reach.ensures in
    let held : values_among n.contents ≡ values_among m.contents =
    k.values ∙ ap (λ (r : MemoryState). values_among r.contents) c.reach.ensures ∙ opening.reach-values m end in
    let size : length n.numbers ≡ length (reached m end).numbers = k.size ∙ ap (λ (r : MemoryState). length r.numbers) c.reach.ensures in
    let all : t + length xs ≤ length n.numbers = let q = opening.reach-long m end in omega (arith, size, q, many) in
    let above : (p : ℕ) → t + length xs ≤ p → content_at n p ≡ Plain = λ p l. c.lend.ensures.above p (omega (arith, l, many)) in
    let z : t + length xs ≡ end = ap (λ n. t + n) (sym many) in
    let memory : c.set_base.new.self ≡ record n { base = t } = c.set_base.ensures in
    ap (λ (n : MemoryState). n.room) memory ∙ k.room ∙ ap (λ (r : MemoryState). r.room) c.reach.ensures ∙ ap (λ (h : FramesState). h.room) c.self.view_is

pub returns-clause-unwritten : goal.returns-clause-unwritten
returns-clause-unwritten g c =
    let a = c.self.inside in
    let m = a.memory in
    let t = a.top in
    let cs = reverse a.calls.items in
    let i = c.self.invariant.inside in
    let xs = slots_of c.args.args.now in
    let can : pull (map slot xs) (frames_in m t cs).slots ≡ Fine c.requires.found.0 =
    ap (λ (h : FramesState). pull (map slot xs) h.slots) c.self.view_is ∙ c.requires.found.1 in
    let ok = can-lend (from (val_at m) m.base) (t - m.base) xs c.requires.found.0 can in
    let slice : c.slots-slots.result.now ≡ xs = c.slots-slots.ensures in
    let many = ap length slice in
    let long = i.long in
    let o = i.frames.order in
    let r = c.reach.new.self in
    let n = c.lend.new.memory in
    let end = t + length c.slots-slots.result.now in
    let call : OpenCall = record { args = c.args.args.now; base = c.base-base.result } in
    let calls : reverse c.push_reserved.new.self.items ≡ call ∷ cs = ap reverse c.push_reserved.ensures.items ∙ reverse-append a.calls.items (call ∷ []) in
    let mid : (p : ℕ) → val_at r p ≡ val_at m p = λ p. ap (λ (r : MemoryState). val_at r p) c.reach.ensures ∙ opening.reach-value m end p in
    let moved : AreMoved (val_at m) (val_at n) m.base t xs =
    leaving.moved-front (val_at m) (val_at r) (val_at n) m.base t xs
    (subst (AreMoved (val_at r) (val_at n) m.base t) slice (subst (λ b. AreMoved (val_at r) (val_at n) b t c.slots-slots.result.now) c.base-base.ensures
    (record { before = c.lend.ensures.before; frame = c.lend.ensures.frame; moved = c.lend.ensures.moved }))) mid in
    let k = c.lend.ensures.alike in
    let spare : n.spare ≡ m.spare = k.spare ∙ ap (λ (r : MemoryState). r.spare) c.reach.ensures in
    let held : values_among n.contents ≡ values_among m.contents =
    k.values ∙ ap (λ (r : MemoryState). values_among r.contents) c.reach.ensures ∙ opening.reach-values m end in
    let size : length n.numbers ≡ length (reached m end).numbers = k.size ∙ ap (λ (r : MemoryState). length r.numbers) c.reach.ensures in
    let all : t + length xs ≤ length n.numbers = let q = opening.reach-long m end in omega (arith, size, q, many) in
    let above : (p : ℕ) → t + length xs ≤ p → content_at n p ≡ Plain = λ p l. c.lend.ensures.above p (omega (arith, l, many)) in
    let z : t + length xs ≡ end = ap (λ n. t + n) (sym many) in
    let memory : c.set_base.new.self ≡ record n { base = t } = c.set_base.ensures in
    ap (λ (n : MemoryState). n.writes) memory ∙ k.writes ∙ ap (λ (r : MemoryState). r.writes) c.reach.ensures
    ∙ ap (λ (h : FramesState). h.writes) c.self.view_is
