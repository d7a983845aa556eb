use Rattle.std.proofs.Common.{◌≡◌, ◌+◌, ◌-◌, length, ap, ◌∙◌, sym, subst, arith}
use Rattle.std.specs.Prelude.{reverse}
use Rattle.janus_meaning.specs.World.{size_of}
use Rattle.janus_memory.specs.Memory.{MemoryState, val_at, reached}
use Rattle.janus_row.specs.Acts.{Fits}
use Rattle.janus_row.specs.Over.{cells_of, names_of}
use Rattle.janus_row.specs.Rows.{IsRow, IsBody, lead_at, sight_of}
use Rattle.janus_frames.specs.Calls.{names_lent}
use Rattle.janus_frames.specs.FramesState.{FramesState}
use Rattle.janus_frames.specs.Inside.{AreIn, frames_in}
use Rattle.janus_frames.specs.Run.{HasCellRoom, KeepsCalls, IsSafeRunOn, RunsOn, KeepsValues, undeclared}
use Rattle.janus_frames.proofs.Holding.{names-below}
use Rattle.janus_frames.proofs.OverRow.{has-cells, names-are, RunOf, of-lists, run-in, run-kept, run-size, run-runs, run-stays}
use Rattle.janus_frames.proofs.Opening.{reach-state}
use Rattle.janus_frames.proofs.Unwritten.{unwritten-in}
use Rattle.janus_frames.proofs.frames.Frames.run_on.Goals as goal

pub overflow_add-base : goal.overflow_add-base
overflow_add-base g c =
    let a = c.self.inside in
    let o = c.self.invariant.inside.frames.order in
    let l = c.self.invariant.inside.long in
    omega (arith, o, l, c.law.ensures.low, c.base-base.ensures)

pub reach-requires : goal.reach-requires
reach-requires g c =
    let a = c.self.inside in
    let m = a.memory in
    let t = a.top in
    let cs = reverse a.calls.items in
    let i = c.self.invariant.inside in
    let row = c.args.row.now in
    let cells : HasCellRoom row (frames_in m t cs) = subst (HasCellRoom row) (sym c.self.view_is) c.requires.room in
    let names = names-below (val_at m) m.base (t - m.base) cs i.frames.nested in
    let room = cells.cells in
    omega (arith, names, room, c.base-base.ensures)

pub run_over-reached-requires-clause-fits : goal.run_over-reached-requires-clause-fits
run_over-reached-requires-clause-fits g c =
    let a = c.self.inside in
    let m = a.memory in
    let t = a.top in
    let cs = reverse a.calls.items in
    let i = c.self.invariant.inside in
    let row = c.args.row.now in
    let cells : HasCellRoom row (frames_in m t cs) = subst (HasCellRoom row) (sym c.self.view_is) c.requires.room in
    let r = c.reach.new.self in
    let reach : r ≡ reached m (m.base + row.width) = c.reach.ensures ∙ ap (λ b. reached m (b + row.width)) c.base-base.ensures in
    let wide = c.law-2.ensures.contents in
    let told : names_of r ≡ row.names = names-are m t cs i row cells r reach wide
    (subst (λ (h : FramesState). h.results ≡ names_lent h.callers + row.names) (sym c.self.view_is) c.requires.told) in
    subst (λ k. Fits k (length (cells_of r)) c.deref.result.now c.deref-2.result.now c.deref-3.result.now) (sym told)
    (of-lists (Fits row.names (length (cells_of r))) _ _ _ _ _ _ (sym c.deref.ensures.value) (sym c.deref-2.ensures.value) (sym c.deref-3.ensures.value)
    (c.fits_wider_law.ensures row.names row.width (length (cells_of r)) row.instructions.items row.spans.items row.primitives.items
    (has-cells m t cs i row cells r reach wide) c.requires.fits))

pub run_over-reached-requires-clause-row : goal.run_over-reached-requires-clause-row
run_over-reached-requires-clause-row g c = subst IsRow (sym c.deref.ensures.value) c.requires.row

pub run_over-reached-requires-clause-here : goal.run_over-reached-requires-clause-here
run_over-reached-requires-clause-here g c = subst (λ l. IsBody l c.args.at) (sym c.deref.ensures.value) c.requires.body

pub returns-clause-there : goal.returns-clause-there
returns-clause-there g c = subst (λ l. IsBody l c.run_over-reached.result.at) c.deref.ensures.value c.run_over-reached.ensures.there

pub returns-clause-moved : goal.returns-clause-moved
returns-clause-moved g c =
    let here = ap (λ l. lead_at l c.args.at) c.deref.ensures.value in
    let there = ap (λ l. lead_at l c.run_over-reached.result.at) c.deref.ensures.value in
    omega (arith, here, there, c.run_over-reached.ensures.moved)

pub overflow_add-self : goal.overflow_add-self
overflow_add-self g c =
    let a = c.self.inside in
    let m = a.memory in
    let t = a.top in
    let cs = reverse a.calls.items in
    let i = c.self.invariant.inside in
    let row = c.args.row.now in
    let cells : HasCellRoom row (frames_in m t cs) = subst (HasCellRoom row) (sym c.self.view_is) c.requires.room in
    let out = c.run_over-reached.result in
    let there : IsBody row.instructions.items out.at = subst (λ l. IsBody l out.at) c.deref.ensures.value c.run_over-reached.ensures.there in
    let s = cells.sights out.at there.there in
    let o = i.frames.order in
    let l = i.long in
    let w = cells.wide in
    omega (arith, s, w, o, l, c.law.ensures.low, c.base-base.ensures, c.sight_there.ensures)

pub invariant_of-self : goal.invariant_of-self
invariant_of-self g c =
    let a = c.self.inside in
    let m = a.memory in
    let t = a.top in
    let cs = reverse a.calls.items in
    let i = c.self.invariant.inside in
    let row = c.args.row.now in
    let cells : HasCellRoom row (frames_in m t cs) = subst (HasCellRoom row) (sym c.self.view_is) c.requires.room in
    let r = c.reach.new.self in
    let reach : r ≡ reached m (m.base + row.width) = c.reach.ensures ∙ ap (λ b. reached m (b + row.width)) c.base-base.ensures in
    let wide = c.law-2.ensures.contents in
    let call = c.run_over-reached in
    let n = call.new.memory in
    let out = call.result in
    let run : RunOf r n c.args.at c.args.m out row.instructions.items row.spans.items row.primitives.items =
    of-lists (RunOf r n c.args.at c.args.m out) _ _ _ _ _ _ c.deref.ensures.value c.deref-2.ensures.value c.deref-3.ensures.value call.ensures.run in
    let there : IsBody row.instructions.items out.at = subst (λ l. IsBody l out.at) c.deref.ensures.value call.ensures.there in
    let asked : IsSafeRunOn row c.args.at c.args.m (undeclared (frames_in m t cs)) =
    subst (λ h. IsSafeRunOn row c.args.at c.args.m (undeclared h)) (sym c.self.view_is) c.requires.sound in
    let base : n.base ≡ r.base = ap (λ b. b.base) call.ensures.before in
    let base_was : r.base ≡ m.base = ap (λ (m : MemoryState). m.base) reach in
    let top : n.base + sight_of row out.at ≡ c.base-base.result + c.sight_there.result =
    omega (arith, base, base_was, c.base-base.ensures, c.sight_there.ensures) in
    record {
      inside = subst (λ t. AreIn n t cs) top (run-in m t cs i row cells r reach wide c.law-2.ensures.stacks n
          call.ensures.before call.ensures.size c.law-3.ensures.stacks c.args.at c.args.m out there run asked);
      call_room = c.self.invariant.call_room;
    }

pub returns-clause-run : goal.returns-clause-run
returns-clause-run g c =
    let a = c.self.inside in
    let m = a.memory in
    let t = a.top in
    let cs = reverse a.calls.items in
    let i = c.self.invariant.inside in
    let row = c.args.row.now in
    let cells : HasCellRoom row (frames_in m t cs) = subst (HasCellRoom row) (sym c.self.view_is) c.requires.room in
    let r = c.reach.new.self in
    let reach : r ≡ reached m (m.base + row.width) = c.reach.ensures ∙ ap (λ b. reached m (b + row.width)) c.base-base.ensures in
    let wide = c.law-2.ensures.contents in
    let call = c.run_over-reached in
    let n = call.new.memory in
    let out = call.result in
    let run : RunOf r n c.args.at c.args.m out row.instructions.items row.spans.items row.primitives.items =
    of-lists (RunOf r n c.args.at c.args.m out) _ _ _ _ _ _ c.deref.ensures.value c.deref-2.ensures.value c.deref-3.ensures.value call.ensures.run in
    let there : IsBody row.instructions.items out.at = subst (λ l. IsBody l out.at) c.deref.ensures.value call.ensures.there in
    let asked : IsSafeRunOn row c.args.at c.args.m (undeclared (frames_in m t cs)) =
    subst (λ h. IsSafeRunOn row c.args.at c.args.m (undeclared h)) (sym c.self.view_is) c.requires.sound in
    let base : n.base ≡ r.base = ap (λ b. b.base) call.ensures.before in
    let base_was : r.base ≡ m.base = ap (λ (m : MemoryState). m.base) reach in
    let top : n.base + sight_of row out.at ≡ c.base-base.result + c.sight_there.result =
    omega (arith, base, base_was, c.base-base.ensures, c.sight_there.ensures) in
    subst (λ h. RunsOn row c.args.at c.args.m out (undeclared h) (undeclared (frames_in n (c.base-base.result + c.sight_there.result) cs))) c.self.view_is
    (subst (λ t'. RunsOn row c.args.at c.args.m out (undeclared (frames_in m t cs)) (undeclared (frames_in n t' cs))) top
    (run-runs m t cs i row cells r reach wide c.law-2.ensures.stacks n
    call.ensures.before call.ensures.size c.law-3.ensures.stacks c.args.at c.args.m out there run))

pub returns-clause-size : goal.returns-clause-size
returns-clause-size g c =
    let a = c.self.inside in
    let m = a.memory in
    let t = a.top in
    let cs = reverse a.calls.items in
    let i = c.self.invariant.inside in
    let row = c.args.row.now in
    let cells : HasCellRoom row (frames_in m t cs) = subst (HasCellRoom row) (sym c.self.view_is) c.requires.room in
    let r = c.reach.new.self in
    let reach : r ≡ reached m (m.base + row.width) = c.reach.ensures ∙ ap (λ b. reached m (b + row.width)) c.base-base.ensures in
    let wide = c.law-2.ensures.contents in
    let call = c.run_over-reached in
    let n = call.new.memory in
    let out = call.result in
    let run : RunOf r n c.args.at c.args.m out row.instructions.items row.spans.items row.primitives.items =
    of-lists (RunOf r n c.args.at c.args.m out) _ _ _ _ _ _ c.deref.ensures.value c.deref-2.ensures.value c.deref-3.ensures.value call.ensures.run in
    let there : IsBody row.instructions.items out.at = subst (λ l. IsBody l out.at) c.deref.ensures.value call.ensures.there in
    let asked : IsSafeRunOn row c.args.at c.args.m (undeclared (frames_in m t cs)) =
    subst (λ h. IsSafeRunOn row c.args.at c.args.m (undeclared h)) (sym c.self.view_is) c.requires.sound in
    let base : n.base ≡ r.base = ap (λ b. b.base) call.ensures.before in
    let base_was : r.base ≡ m.base = ap (λ (m : MemoryState). m.base) reach in
    let top : n.base + sight_of row out.at ≡ c.base-base.result + c.sight_there.result =
    omega (arith, base, base_was, c.base-base.ensures, c.sight_there.ensures) in
    subst (λ t. size_of (frames_in n t cs).slots ≡ sight_of row out.at) top
    (run-size m t cs i row cells r reach wide c.law-2.ensures.stacks n
    call.ensures.before call.ensures.size c.law-3.ensures.stacks c.args.at c.args.m out there run asked)

pub returns-clause-kept : goal.returns-clause-kept
returns-clause-kept g c =
    let a = c.self.inside in
    let m = a.memory in
    let t = a.top in
    let cs = reverse a.calls.items in
    let i = c.self.invariant.inside in
    let row = c.args.row.now in
    let cells : HasCellRoom row (frames_in m t cs) = subst (HasCellRoom row) (sym c.self.view_is) c.requires.room in
    let r = c.reach.new.self in
    let reach : r ≡ reached m (m.base + row.width) = c.reach.ensures ∙ ap (λ b. reached m (b + row.width)) c.base-base.ensures in
    let wide = c.law-2.ensures.contents in
    let call = c.run_over-reached in
    let n = call.new.memory in
    let out = call.result in
    let run : RunOf r n c.args.at c.args.m out row.instructions.items row.spans.items row.primitives.items =
    of-lists (RunOf r n c.args.at c.args.m out) _ _ _ _ _ _ c.deref.ensures.value c.deref-2.ensures.value c.deref-3.ensures.value call.ensures.run in
    let there : IsBody row.instructions.items out.at = subst (λ l. IsBody l out.at) c.deref.ensures.value call.ensures.there in
    let asked : IsSafeRunOn row c.args.at c.args.m (undeclared (frames_in m t cs)) =
    subst (λ h. IsSafeRunOn row c.args.at c.args.m (undeclared h)) (sym c.self.view_is) c.requires.sound in
    let base : n.base ≡ r.base = ap (λ b. b.base) call.ensures.before in
    let base_was : r.base ≡ m.base = ap (λ (m : MemoryState). m.base) reach in
    let top : n.base + sight_of row out.at ≡ c.base-base.result + c.sight_there.result =
    omega (arith, base, base_was, c.base-base.ensures, c.sight_there.ensures) in
    subst (λ h. KeepsCalls h (frames_in n (c.base-base.result + c.sight_there.result) cs)) c.self.view_is
    (subst (λ t'. KeepsCalls (frames_in m t cs) (frames_in n t' cs)) top (run-kept m t cs i row cells r reach wide c.law-2.ensures.stacks n
    call.ensures.before call.ensures.size c.law-3.ensures.stacks c.args.at c.args.m out there run asked))

pub returns-clause-written : goal.returns-clause-written
returns-clause-written g c =
    let a = c.self.inside in
    let m = a.memory in
    let t = a.top in
    let cs = reverse a.calls.items in
    let i = c.self.invariant.inside in
    let row = c.args.row.now in
    let cells : HasCellRoom row (frames_in m t cs) = subst (HasCellRoom row) (sym c.self.view_is) c.requires.room in
    let r = c.reach.new.self in
    let reach : r ≡ reached m (m.base + row.width) = c.reach.ensures ∙ ap (λ b. reached m (b + row.width)) c.base-base.ensures in
    let wide = c.law-2.ensures.contents in
    let old = ap (λ (h : FramesState). h.writes) c.self.view_is in
    let was = ap (λ (m : MemoryState). m.writes) reach in
    let w = c.run_over-reached.ensures.written in
    let lead = ap (λ l. lead_at l c.args.at) c.deref.ensures.value in
    (omega (arith, old, was, w, lead), omega (arith, old, was, w, lead))

pub returns-clause-stays : goal.returns-clause-stays
returns-clause-stays g c = λ few.
    let a = c.self.inside in
    let m = a.memory in
    let t = a.top in
    let cs = reverse a.calls.items in
    let i = c.self.invariant.inside in
    let row = c.args.row.now in
    let cells : HasCellRoom row (frames_in m t cs) = subst (HasCellRoom row) (sym c.self.view_is) c.requires.room in
    let r = c.reach.new.self in
    let reach : r ≡ reached m (m.base + row.width) = c.reach.ensures ∙ ap (λ b. reached m (b + row.width)) c.base-base.ensures in
    let wide = c.law-2.ensures.contents in
    let call = c.run_over-reached in
    let n = call.new.memory in
    let out = call.result in
    let run : RunOf r n c.args.at c.args.m out row.instructions.items row.spans.items row.primitives.items =
    of-lists (RunOf r n c.args.at c.args.m out) _ _ _ _ _ _ c.deref.ensures.value c.deref-2.ensures.value c.deref-3.ensures.value call.ensures.run in
    let there : IsBody row.instructions.items out.at = subst (λ l. IsBody l out.at) c.deref.ensures.value call.ensures.there in
    let asked : IsSafeRunOn row c.args.at c.args.m (undeclared (frames_in m t cs)) =
    subst (λ h. IsSafeRunOn row c.args.at c.args.m (undeclared h)) (sym c.self.view_is) c.requires.sound in
    let base : n.base ≡ r.base = ap (λ b. b.base) call.ensures.before in
    let base_was : r.base ≡ m.base = ap (λ (m : MemoryState). m.base) reach in
    let top : n.base + sight_of row out.at ≡ c.base-base.result + c.sight_there.result =
    omega (arith, base, base_was, c.base-base.ensures, c.sight_there.ensures) in
    let lead = ap (λ l. lead_at l c.args.at) c.deref.ensures.value in
    let still = call.ensures.stays (omega (arith, few, lead)) in
    let written = call.ensures.written in (
      ap (λ t. frames_in n t cs) (sym top)
          ∙ run-stays m t cs i row cells r reach wide c.law-2.ensures.stacks n
          call.ensures.before call.ensures.size c.law-3.ensures.stacks c.args.at c.args.m out there run asked
          (omega (arith, written, lead), omega (arith, written, lead)) still.1
          ∙ c.self.view_is,
      still.0,
      still.1,
    )

pub returns-clause-unwritten : goal.returns-clause-unwritten
returns-clause-unwritten g c = λ none.
    let a = c.self.inside in
    let m = a.memory in
    let t = a.top in
    let cs = reverse a.calls.items in
    let i = c.self.invariant.inside in
    let row = c.args.row.now in
    let cells : HasCellRoom row (frames_in m t cs) = subst (HasCellRoom row) (sym c.self.view_is) c.requires.room in
    let r = c.reach.new.self in
    let reach : r ≡ reached m (m.base + row.width) = c.reach.ensures ∙ ap (λ b. reached m (b + row.width)) c.base-base.ensures in
    let call = c.run_over-reached in
    let n = call.new.memory in
    let out = call.result in
    let wide = c.law-2.ensures.contents in
    let told : names_of r ≡ row.names = names-are m t cs i row cells r reach wide
    (subst (λ (h : FramesState). h.results ≡ names_lent h.callers + row.names) (sym c.self.view_is) c.requires.told) in
    let there : IsBody row.instructions.items out.at = subst (λ l. IsBody l out.at) c.deref.ensures.value call.ensures.there in
    let few = cells.sights out.at there.there in
    let base : n.base ≡ r.base = ap (λ b. b.base) call.ensures.before in
    let base_was : r.base ≡ m.base = ap (λ (m : MemoryState). m.base) reach in
    let top : n.base + sight_of row out.at ≡ c.base-base.result + c.sight_there.result =
    omega (arith, base, base_was, c.base-base.ensures, c.sight_there.ensures) in
    let old = ap (λ (h : FramesState). h.writes) c.self.view_is in
    let was : r.writes ≡ m.writes = ap (λ (m : MemoryState). m.writes) reach in
    let same : frames_in r t cs ≡ c.args.self.now =
    ap (λ r. frames_in r t cs) reach ∙ reach-state m t (m.base + row.width) cs i ∙ c.self.view_is in
    subst (λ (f : FramesState). KeepsValues f.slots (frames_in n (c.base-base.result + c.sight_there.result) cs).slots) same
    (subst (λ t'. KeepsValues (frames_in r t cs).slots (frames_in n t' cs).slots) top
    (unwritten-in r n t (sight_of row out.at) (names_of r) cs base (omega (arith, few, told))
    (call.ensures.unwritten (none ∙ sym (was ∙ old)))))
