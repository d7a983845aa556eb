use Rattle.std.proofs.Common.{◌≡◌, ◌-◌, ◌≤◌, ℕ, [], ◌∷◌, length, ap, ◌∙◌, sym, subst, arith}
use Rattle.std.specs.Prelude.{reverse}
use Rattle.std.proofs.lemmas.List.{reverse-append}
use Rattle.janus_memory.specs.Memory.{MemoryState, Plain, val_at, content_at}
use Rattle.janus_frames.specs.Cells.{from, AreBelow, AreApart, has}
use Rattle.janus_frames.specs.Calls.{slots_of, AreAlone, Returns}
use Rattle.janus_frames.specs.FramesState.{FramesState}
use Rattle.janus_frames.specs.Inside.{frames_in, AreIn}
use Rattle.janus_frames.proofs.Calling.{AreGiven, as-many}
use Rattle.janus_frames.proofs.Leaving as leaving
use Rattle.janus_frames.proofs.Reading.{size-stored}
use Rattle.janus_frames.proofs.frames.Frames.leave.Goals as goal

pub give_back-requires-clause-order : goal.give_back-requires-clause-order
give_back-requires-clause-order g c =
    let a = c.self.inside in
    let m = a.memory in
    let t = a.top in
    let cs = reverse a.calls.items in
    let i = c.self.invariant.inside in
    let call = c.in-Some.call in
    let xs = slots_of call.args in
    let rest = reverse c.pop.new.self.items in
    let calls : cs ≡ call ∷ rest = ap reverse c.in-Some.ensures.items ∙ reverse-append c.pop.new.self.items (call ∷ []) in
    let inside : AreIn m t (call ∷ rest) = subst (AreIn m t) calls i in
    let f = inside.frames in
    let opened : AreAlone (frames_in m t (call ∷ rest)).callers (frames_in m t (call ∷ rest)).slots =
    subst (λ cs. AreAlone (frames_in m t cs).callers (frames_in m t cs).slots) calls
    (subst (λ (h : FramesState). AreAlone h.callers h.slots) (sym c.self.view_is) c.requires) in
    let n = size-stored (from (val_at m) m.base) (t - m.base) in
    let many = as-many xs in
    let alone : t - m.base ≡ length xs = omega (arith, opened, n, many) in
    let slice : c.slots.result.now ≡ xs = c.slots.ensures in
    let o = f.order in
    let long = i.long in
    omega (arith, f.nested.0, c.base-base.ensures)

pub give_back-requires-clause-room : goal.give_back-requires-clause-room
give_back-requires-clause-room g c =
    let a = c.self.inside in
    let m = a.memory in
    let t = a.top in
    let cs = reverse a.calls.items in
    let i = c.self.invariant.inside in
    let call = c.in-Some.call in
    let xs = slots_of call.args in
    let rest = reverse c.pop.new.self.items in
    let calls : cs ≡ call ∷ rest = ap reverse c.in-Some.ensures.items ∙ reverse-append c.pop.new.self.items (call ∷ []) in
    let inside : AreIn m t (call ∷ rest) = subst (AreIn m t) calls i in
    let f = inside.frames in
    let opened : AreAlone (frames_in m t (call ∷ rest)).callers (frames_in m t (call ∷ rest)).slots =
    subst (λ cs. AreAlone (frames_in m t cs).callers (frames_in m t cs).slots) calls
    (subst (λ (h : FramesState). AreAlone h.callers h.slots) (sym c.self.view_is) c.requires) in
    let n = size-stored (from (val_at m) m.base) (t - m.base) in
    let many = as-many xs in
    let alone : t - m.base ≡ length xs = omega (arith, opened, n, many) in
    let slice : c.slots.result.now ≡ xs = c.slots.ensures in
    let o = f.order in
    let long = i.long in
    omega (arith, alone, long, o, ap length slice, c.base-base.ensures)

pub give_back-requires-clause-low : goal.give_back-requires-clause-low
give_back-requires-clause-low g c =
    let a = c.self.inside in
    let m = a.memory in
    let t = a.top in
    let cs = reverse a.calls.items in
    let i = c.self.invariant.inside in
    let call = c.in-Some.call in
    let xs = slots_of call.args in
    let rest = reverse c.pop.new.self.items in
    let calls : cs ≡ call ∷ rest = ap reverse c.in-Some.ensures.items ∙ reverse-append c.pop.new.self.items (call ∷ []) in
    let inside : AreIn m t (call ∷ rest) = subst (AreIn m t) calls i in
    let f = inside.frames in
    let opened : AreAlone (frames_in m t (call ∷ rest)).callers (frames_in m t (call ∷ rest)).slots =
    subst (λ cs. AreAlone (frames_in m t cs).callers (frames_in m t cs).slots) calls
    (subst (λ (h : FramesState). AreAlone h.callers h.slots) (sym c.self.view_is) c.requires) in
    let n = size-stored (from (val_at m) m.base) (t - m.base) in
    let many = as-many xs in
    let alone : t - m.base ≡ length xs = omega (arith, opened, n, many) in
    let slice : c.slots.result.now ≡ xs = c.slots.ensures in
    let o = f.order in
    let long = i.long in
    subst (λ b. AreBelow (b - call.base) c.slots.result.now) (sym c.base-base.ensures) (subst (AreBelow (m.base - call.base)) (sym slice) f.nested.2.below)

pub give_back-requires-clause-apart : goal.give_back-requires-clause-apart
give_back-requires-clause-apart g c =
    let a = c.self.inside in
    let m = a.memory in
    let t = a.top in
    let cs = reverse a.calls.items in
    let i = c.self.invariant.inside in
    let call = c.in-Some.call in
    let xs = slots_of call.args in
    let rest = reverse c.pop.new.self.items in
    let calls : cs ≡ call ∷ rest = ap reverse c.in-Some.ensures.items ∙ reverse-append c.pop.new.self.items (call ∷ []) in
    let inside : AreIn m t (call ∷ rest) = subst (AreIn m t) calls i in
    let f = inside.frames in
    let opened : AreAlone (frames_in m t (call ∷ rest)).callers (frames_in m t (call ∷ rest)).slots =
    subst (λ cs. AreAlone (frames_in m t cs).callers (frames_in m t cs).slots) calls
    (subst (λ (h : FramesState). AreAlone h.callers h.slots) (sym c.self.view_is) c.requires) in
    let n = size-stored (from (val_at m) m.base) (t - m.base) in
    let many = as-many xs in
    let alone : t - m.base ≡ length xs = omega (arith, opened, n, many) in
    let slice : c.slots.result.now ≡ xs = c.slots.ensures in
    let o = f.order in
    let long = i.long in
    subst AreApart (sym slice) f.nested.2.apart

pub give_back-requires-clause-lent : goal.give_back-requires-clause-lent
give_back-requires-clause-lent g c =
    let a = c.self.inside in
    let m = a.memory in
    let t = a.top in
    let cs = reverse a.calls.items in
    let i = c.self.invariant.inside in
    let call = c.in-Some.call in
    let xs = slots_of call.args in
    let rest = reverse c.pop.new.self.items in
    let calls : cs ≡ call ∷ rest = ap reverse c.in-Some.ensures.items ∙ reverse-append c.pop.new.self.items (call ∷ []) in
    let inside : AreIn m t (call ∷ rest) = subst (AreIn m t) calls i in
    let f = inside.frames in
    let opened : AreAlone (frames_in m t (call ∷ rest)).callers (frames_in m t (call ∷ rest)).slots =
    subst (λ cs. AreAlone (frames_in m t cs).callers (frames_in m t cs).slots) calls
    (subst (λ (h : FramesState). AreAlone h.callers h.slots) (sym c.self.view_is) c.requires) in
    let n = size-stored (from (val_at m) m.base) (t - m.base) in
    let many = as-many xs in
    let alone : t - m.base ≡ length xs = omega (arith, opened, n, many) in
    let slice : c.slots.result.now ≡ xs = c.slots.ensures in
    let o = f.order in
    let long = i.long in
    λ k l h. f.nested.2.lent k (omega (arith, l, c.base-base.ensures)) (ap (λ xs. has xs k) (sym slice) ∙ h)

pub give_back-requires-clause-above : goal.give_back-requires-clause-above
give_back-requires-clause-above g c =
    let a = c.self.inside in
    let m = a.memory in
    let t = a.top in
    let cs = reverse a.calls.items in
    let i = c.self.invariant.inside in
    let call = c.in-Some.call in
    let xs = slots_of call.args in
    let rest = reverse c.pop.new.self.items in
    let calls : cs ≡ call ∷ rest = ap reverse c.in-Some.ensures.items ∙ reverse-append c.pop.new.self.items (call ∷ []) in
    let inside : AreIn m t (call ∷ rest) = subst (AreIn m t) calls i in
    let f = inside.frames in
    let opened : AreAlone (frames_in m t (call ∷ rest)).callers (frames_in m t (call ∷ rest)).slots =
    subst (λ cs. AreAlone (frames_in m t cs).callers (frames_in m t cs).slots) calls
    (subst (λ (h : FramesState). AreAlone h.callers h.slots) (sym c.self.view_is) c.requires) in
    let n = size-stored (from (val_at m) m.base) (t - m.base) in
    let many = as-many xs in
    let alone : t - m.base ≡ length xs = omega (arith, opened, n, many) in
    let slice : c.slots.result.now ≡ xs = c.slots.ensures in
    let o = f.order in
    let long = i.long in
    λ p l. i.above p (omega (arith, l, alone, o, ap length slice, c.base-base.ensures))

pub invariant_of-self : goal.invariant_of-self
invariant_of-self g c =
    let a = c.self.inside in
    let m = a.memory in
    let t = a.top in
    let cs = reverse a.calls.items in
    let i = c.self.invariant.inside in
    let call = c.in-Some.call in
    let xs = slots_of call.args in
    let rest = reverse c.pop.new.self.items in
    let calls : cs ≡ call ∷ rest = ap reverse c.in-Some.ensures.items ∙ reverse-append c.pop.new.self.items (call ∷ []) in
    let inside : AreIn m t (call ∷ rest) = subst (AreIn m t) calls i in
    let f = inside.frames in
    let opened : AreAlone (frames_in m t (call ∷ rest)).callers (frames_in m t (call ∷ rest)).slots =
    subst (λ cs. AreAlone (frames_in m t cs).callers (frames_in m t cs).slots) calls
    (subst (λ (h : FramesState). AreAlone h.callers h.slots) (sym c.self.view_is) c.requires) in
    let n = size-stored (from (val_at m) m.base) (t - m.base) in
    let many = as-many xs in
    let alone : t - m.base ≡ length xs = omega (arith, opened, n, many) in
    let slice : c.slots.result.now ≡ xs = c.slots.ensures in
    let o = f.order in
    let long = i.long in
    let w = c.give_back.new.memory in
    let given : AreGiven (val_at m) (val_at w) call.base m.base xs =
    subst (AreGiven (val_at m) (val_at w) call.base m.base) slice (subst (λ b. AreGiven (val_at m)
    (val_at w) call.base b c.slots.result.now) c.base-base.ensures
    (record { before = c.give_back.ensures.before; frame = c.give_back.ensures.frame; moved = c.give_back.ensures.moved })) in
    let above : (p : ℕ) → m.base ≤ p → content_at w p ≡ Plain = λ p l. c.give_back.ensures.above p (omega (arith, l, c.base-base.ensures)) in
    let memory : c.set_base.new.self ≡ record w { base = call.base } = c.set_base.ensures in
    let k = c.give_back.ensures.alike in
    let back = leaving.left-in m w t call rest inside alone given k above in
    record {
      inside = subst (λ n. AreIn n c.base-base.result rest) (sym memory)
          (subst (λ q. AreIn (record w { base = call.base }) q rest) (sym c.base-base.ensures) back);
      call_room = let r = c.self.invariant.call_room in omega (arith, r, c.pop.ensures.capacity);
    }

pub returns-clause-left : goal.returns-clause-left
returns-clause-left g c =
    let a = c.self.inside in
    let m = a.memory in
    let t = a.top in
    let cs = reverse a.calls.items in
    let i = c.self.invariant.inside in
    let call = c.in-Some.call in
    let xs = slots_of call.args in
    let rest = reverse c.pop.new.self.items in
    let calls : cs ≡ call ∷ rest = ap reverse c.in-Some.ensures.items ∙ reverse-append c.pop.new.self.items (call ∷ []) in
    let inside : AreIn m t (call ∷ rest) = subst (AreIn m t) calls i in
    let f = inside.frames in
    let opened : AreAlone (frames_in m t (call ∷ rest)).callers (frames_in m t (call ∷ rest)).slots =
    subst (λ cs. AreAlone (frames_in m t cs).callers (frames_in m t cs).slots) calls
    (subst (λ (h : FramesState). AreAlone h.callers h.slots) (sym c.self.view_is) c.requires) in
    let n = size-stored (from (val_at m) m.base) (t - m.base) in
    let many = as-many xs in
    let alone : t - m.base ≡ length xs = omega (arith, opened, n, many) in
    let slice : c.slots.result.now ≡ xs = c.slots.ensures in
    let o = f.order in
    let long = i.long in
    let w = c.give_back.new.memory in
    let given : AreGiven (val_at m) (val_at w) call.base m.base xs =
    subst (AreGiven (val_at m) (val_at w) call.base m.base) slice (subst (λ b. AreGiven (val_at m)
    (val_at w) call.base b c.slots.result.now) c.base-base.ensures
    (record { before = c.give_back.ensures.before; frame = c.give_back.ensures.frame; moved = c.give_back.ensures.moved })) in
    let above : (p : ℕ) → m.base ≤ p → content_at w p ≡ Plain = λ p l. c.give_back.ensures.above p (omega (arith, l, c.base-base.ensures)) in
    let memory : c.set_base.new.self ≡ record w { base = call.base } = c.set_base.ensures in
    let k = c.give_back.ensures.alike in
    let after = leaving.left-returns (val_at m) (val_at w) m.base t call rest f alone given in
    let old = frames_in m t (call ∷ rest) in
    let e1 = subst (λ q. Returns old.callers old.slots (frames_in (record w { base = call.base }) q rest).slots
    (frames_in (record w { base = call.base }) q rest).callers) (sym c.base-base.ensures) after in
    let e2 = subst (λ n. Returns old.callers old.slots (frames_in n c.base-base.result rest).slots (frames_in n c.base-base.result rest).callers)
    (sym memory) e1 in
    let new = frames_in c.set_base.new.self c.base-base.result rest in
    subst (λ (h : FramesState). Returns h.callers h.slots new.slots new.callers) c.self.view_is
    (subst (λ cs. Returns (frames_in m t cs).callers (frames_in m t cs).slots new.slots new.callers) (sym calls) e2)

pub returns-clause-room : goal.returns-clause-room
returns-clause-room g c =
    let a = c.self.inside in
    let m = a.memory in
    let t = a.top in
    let cs = reverse a.calls.items in
    let i = c.self.invariant.inside in
    let call = c.in-Some.call in
    let xs = slots_of call.args in
    let rest = reverse c.pop.new.self.items in
    let calls : cs ≡ call ∷ rest = ap reverse c.in-Some.ensures.items ∙ reverse-append c.pop.new.self.items (call ∷ []) in
    let inside : AreIn m t (call ∷ rest) = subst (AreIn m t) calls i in
    let f = inside.frames in
    let opened : AreAlone (frames_in m t (call ∷ rest)).callers (frames_in m t (call ∷ rest)).slots =
    subst (λ cs. AreAlone (frames_in m t cs).callers (frames_in m t cs).slots) calls
    (subst (λ (h : FramesState). AreAlone h.callers h.slots) (sym c.self.view_is) c.requires) in
    let n = size-stored (from (val_at m) m.base) (t - m.base) in
    let many = as-many xs in
    let alone : t - m.base ≡ length xs = omega (arith, opened, n, many) in
    let slice : c.slots.result.now ≡ xs = c.slots.ensures in
    let o = f.order in
    let long = i.long in
    let w = c.give_back.new.memory in
    let given : AreGiven (val_at m) (val_at w) call.base m.base xs =
    subst (AreGiven (val_at m) (val_at w) call.base m.base) slice (subst (λ b. AreGiven (val_at m)
    (val_at w) call.base b c.slots.result.now) c.base-base.ensures
    (record { before = c.give_back.ensures.before; frame = c.give_back.ensures.frame; moved = c.give_back.ensures.moved })) in
    let above : (p : ℕ) → m.base ≤ p → content_at w p ≡ Plain = λ p l. c.give_back.ensures.above p (omega (arith, l, c.base-base.ensures)) in
    let memory : c.set_base.new.self ≡ record w { base = call.base } = c.set_base.ensures in
    let k = c.give_back.ensures.alike in
    ap (λ (n : MemoryState). n.room) memory ∙ k.room ∙ ap (λ (h : FramesState). h.room) c.self.view_is

pub returns-clause-unwritten : goal.returns-clause-unwritten
returns-clause-unwritten g c =
    let a = c.self.inside in
    let m = a.memory in
    let t = a.top in
    let cs = reverse a.calls.items in
    let i = c.self.invariant.inside in
    let call = c.in-Some.call in
    let xs = slots_of call.args in
    let rest = reverse c.pop.new.self.items in
    let calls : cs ≡ call ∷ rest = ap reverse c.in-Some.ensures.items ∙ reverse-append c.pop.new.self.items (call ∷ []) in
    let inside : AreIn m t (call ∷ rest) = subst (AreIn m t) calls i in
    let f = inside.frames in
    let opened : AreAlone (frames_in m t (call ∷ rest)).callers (frames_in m t (call ∷ rest)).slots =
    subst (λ cs. AreAlone (frames_in m t cs).callers (frames_in m t cs).slots) calls
    (subst (λ (h : FramesState). AreAlone h.callers h.slots) (sym c.self.view_is) c.requires) in
    let n = size-stored (from (val_at m) m.base) (t - m.base) in
    let many = as-many xs in
    let alone : t - m.base ≡ length xs = omega (arith, opened, n, many) in
    let slice : c.slots.result.now ≡ xs = c.slots.ensures in
    let o = f.order in
    let long = i.long in
    let w = c.give_back.new.memory in
    let given : AreGiven (val_at m) (val_at w) call.base m.base xs =
    subst (AreGiven (val_at m) (val_at w) call.base m.base) slice (subst (λ b. AreGiven (val_at m)
    (val_at w) call.base b c.slots.result.now) c.base-base.ensures
    (record { before = c.give_back.ensures.before; frame = c.give_back.ensures.frame; moved = c.give_back.ensures.moved })) in
    let above : (p : ℕ) → m.base ≤ p → content_at w p ≡ Plain = λ p l. c.give_back.ensures.above p (omega (arith, l, c.base-base.ensures)) in
    let memory : c.set_base.new.self ≡ record w { base = call.base } = c.set_base.ensures in
    let k = c.give_back.ensures.alike in
    ap (λ (n : MemoryState). n.writes) memory ∙ k.writes ∙ ap (λ (h : FramesState). h.writes) c.self.view_is
