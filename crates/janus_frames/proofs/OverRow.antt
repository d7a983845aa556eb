-- A row that is run over the cells of frames: what it is run over, and what it leaves.
use Rattle.std.proofs.Common.{◌≡◌, ◌≢◌, ℕ, ◌+◌, ◌-◌, ◌<◌, ◌≤◌, List, length, refl, ap, ◌∙◌, sym, subst, arith, Result, Ok, Err}
use Rattle.janus_meaning.specs.Fault.{Broken}
use Rattle.janus_meaning.specs.Writes.{IsWritten}
use Rattle.std.proofs.lemmas.List.{length-drop}
use Rattle.janus_meaning.specs.Limit.{live_stack_limit}
use Rattle.janus_meaning.specs.Store.{Store}
use Rattle.janus_meaning.specs.World.{size_of}
use Rattle.janus_meaning.specs.Stepping as meaning
use Rattle.janus_meaning.specs.Stepping.{Place, To, Halt, live, kept, frames_of}
use Rattle.janus_memory.specs.Memory.{MemoryState, val_at, reached, stacks_among}
use Rattle.janus_row.specs.Frames.{IsSeen}
use Rattle.janus_row.specs.Over.{cells_of, others_of, front_of, names_of}
use Rattle.janus_row.specs.Rows.{instruction_at, lead_at, body_at, entry, IsBody, sight_of}
use Rattle.janus_row.specs.OneStep.{IsStepTo, IsOneStep}
use Rattle.janus_row.specs.Sound.{World, Sees, TakesStep, IsSound, IsSafeAhead, IsRefused, IsStopped, AreRun}
use Rattle.janus_row.specs.declared.code.Instruction.{Instruction}
use Rattle.janus_row.specs.declared.code.Primitive.{Primitive}
use Rattle.janus_row.specs.declared.code.Row.{Row}
use Rattle.janus_row.specs.declared.code.Span.{Span}
use Rattle.janus_row.specs.declared.fault.Stop.{Stop}
use Rattle.janus_row.specs.declared.slice.Reached.{Reached}
use Rattle.janus_frames.specs.Calls.{own_names, names_lent, values_lent}
use Rattle.janus_frames.specs.FramesState.{FramesState, stacks_there}
use Rattle.janus_frames.specs.Inside.{AreIn, frames_in}
use Rattle.janus_frames.specs.Run.{HasCellRoom, KeepsCalls, IsSafeRunOn, IsRunnable, IsRunnableOnce, RunsOn, RunsOnce, undeclared}
use Rattle.janus_frames.specs.Cells.{from}
use Rattle.janus_frames.specs.declared.frames.OpenCall.{OpenCall}
use Rattle.janus_frames.proofs.Holding.{names-below}
use Rattle.janus_frames.proofs.Opening.{reach-in, reach-state, reach-long}
use Rattle.janus_frames.proofs.Reading.{size-stored}
use Rattle.janus_frames.proofs.Ran.{seen, room-is, callers-are, slots-are, in-again, stacks-are, values-are}

seen-as : (n m v : ℕ) (s : Store) (o p q : ℕ) (t : Store) (a : MemoryState) → n ≡ o → m ≡ p → v ≡ q → s ≡ t
    → IsSeen n m v s (cells_of a) (others_of a) → IsSeen o p q t (cells_of a) (others_of a)
seen-as n m v s o p q t a e f g h x =
    subst (λ n. IsSeen n p q t (cells_of a) (others_of a)) e
    (subst (λ m. IsSeen n m q t (cells_of a) (others_of a)) f
    (subst (λ v. IsSeen n m v t (cells_of a) (others_of a)) g
    (subst (λ s. IsSeen n m v s (cells_of a) (others_of a)) h x)))

pub same-state : (g h : FramesState) → g.slots ≡ h.slots → g.callers ≡ h.callers → g.room ≡ h.room → g.results ≡ h.results → g.writes ≡ h.writes → g ≡ h
same-state g h a b c r d =
    ap (λ s. record g { slots = s }) a ∙ ap (λ cs. record g { slots = h.slots; callers = cs }) b
    ∙ ap (λ n. record g { slots = h.slots; callers = h.callers; room = n }) c
    ∙ ap (λ n. record g { slots = h.slots; callers = h.callers; room = h.room; results = n }) r
    ∙ ap (λ n. record h { writes = n }) d

-- r is the memory m once a row has its cells
module _ (m : MemoryState) (top : ℕ) (calls : List OpenCall) (i : AreIn m top calls) (row : Row) (cells : HasCellRoom row (frames_in m top calls))
    (r : MemoryState) (reach : r ≡ reached m (m.base + row.width)) (wide : length r.contents ≡ length r.numbers) where
  abbrev f : FramesState
  f = frames_in m top calls

  abbrev f0 : FramesState
  f0 = frames_in r top calls

  there : AreIn r top calls
  there = subst (λ r. AreIn r top calls) (sym reach) (reach-in m top (m.base + row.width) calls i)

  same : f0 ≡ f
  same = ap (λ r. frames_in r top calls) reach ∙ reach-state m top (m.base + row.width) calls i

  base-is : r.base ≡ m.base
  base-is = ap (λ (r : MemoryState). r.base) reach

  long : m.base + row.width ≤ length r.numbers
  long = subst (λ (r : MemoryState). m.base + row.width ≤ length r.numbers) (sym reach) (reach-long m (m.base + row.width))

  -- the row has its cells
  pub has-cells : row.width ≤ length (cells_of r)
  has-cells = let l = long in let d = length-drop r.base r.numbers in let b = base-is in omega (arith, l, d, b)

  -- as many of them are for names as were told
  pub names-are : m.results ≡ names_lent (frames_in m top calls).callers + row.names → names_of r ≡ row.names
  names-are told =
      let b = base-is in
      let e : r.results ≡ m.results = ap (λ (r : MemoryState). r.results) reach in
      let n = names-below (val_at m) m.base (top - m.base) calls i.frames.nested in
      omega (arith, told, b, e, n)

  -- the row sees the names there
  pub start : (w : World) (k : ℕ) → w.sight k ≡ sight_of row k → size_of f.slots ≡ sight_of row k
      → stacks_there f ≡ live w.outside.stacks (frames_of (w.places k)) → values_lent f.callers ≡ kept w.outside.values (frames_of (w.places k))
      → Sees w k f.slots (cells_of r) (others_of r)
  start w k sight size stacks values =
      let x = seen r top calls there wide in
      seen-as (top - r.base) (stacks_there f0) (values_lent f0.callers) f0.slots (w.sight k) (live w.outside.stacks (frames_of (w.places k)))
      (kept w.outside.values (frames_of (w.places k))) f.slots r
      (sym x.size ∙ ap (λ (f : FramesState). size_of f.slots) same ∙ size ∙ sym sight)
      (ap stacks_there same ∙ stacks) (ap (λ (f : FramesState). values_lent f.callers) same ∙ values) (ap (λ (f : FramesState). f.slots) same) x

  module _ (free : r.spare + stacks_among r.contents ≡ live_stack_limit) (n : MemoryState) (before : front_of n ≡ front_of r)
      (size : length (cells_of n) ≡ length (cells_of r)) (spare : n.spare + stacks_among n.contents ≡ live_stack_limit)
      (w : World) (k : ℕ) (sight : w.sight k ≡ sight_of row k) (lt : k < length row.instructions.items) (s : Store)
      (sees : Sees w k s (cells_of n) (others_of n)) where
    abbrev u : ℕ
    u = sight_of row k

    abbrev g : FramesState
    g = frames_in n (n.base + u) calls

    at-u : IsSeen u (live w.outside.stacks (frames_of (w.places k))) (kept w.outside.values (frames_of (w.places k))) s (cells_of n) (others_of n)
    at-u = subst (λ n'. IsSeen n' (live w.outside.stacks (frames_of (w.places k))) (kept w.outside.values (frames_of (w.places k))) s
        (cells_of n) (others_of n)) sight sees

    own : own_names 0 f0.callers ≤ u
    own = subst (λ (f : FramesState). own_names 0 f.callers ≤ u) (sym same) (cells.own k lt)

    room : r.base + u ≤ length r.numbers
    room = let l = long in let e = cells.sights k lt in let s = cells.wide in let b = base-is in omega (arith, l, e, s, b)

    pub left-in : AreIn n (n.base + sight_of row k) calls
    left-in = in-again r top calls there wide free n before size spare u _ _ s at-u own room

    pub left-slots : (frames_in n (n.base + sight_of row k) calls).slots ≡ s
    left-slots = slots-are r top calls there wide free n before size spare u _ _ s at-u own room

    pub left-callers : (frames_in n (n.base + sight_of row k) calls).callers ≡ (frames_in m top calls).callers
    left-callers = callers-are r top calls there wide free n before size spare u _ _ s at-u own room ∙ ap (λ (f : FramesState). f.callers) same

    pub left-kept : KeepsCalls (frames_in m top calls) (frames_in n (n.base + sight_of row k) calls)
    left-kept = record {
      callers = left-callers;
      room = room-is r top calls there wide free n before size spare u _ _ s at-u own room ∙ ap (λ (r : MemoryState). r.room) reach;
    }

    pub left-size : size_of (frames_in n (n.base + sight_of row k) calls).slots ≡ sight_of row k
    left-size = ap size_of left-slots ∙ at-u.size

    pub left-stacks : stacks_there (frames_in n (n.base + sight_of row k) calls) ≡ live w.outside.stacks (frames_of (w.places k))
    left-stacks = stacks-are r top calls there wide free n before size spare u _ _ s at-u own room

    pub left-values : values_lent (frames_in n (n.base + sight_of row k) calls).callers ≡ kept w.outside.values (frames_of (w.places k))
    left-values = values-are r top calls there wide free n before size spare u _ _ s at-u own room

    -- what is runnable then
    pub runnable-left : ((n : ℕ) → row.width ≤ n → IsSound w n row.instructions.items row.spans.items row.primitives.items)
        → ((k : ℕ) → w.sight k ≡ sight_of row k) → IsRunnable w row k (undeclared (frames_in n (n.base + sight_of row k) calls))
    runnable-left sound all = record { sound = sound; sight = all; size = left-size; stacks = left-stacks; values = left-values }

-- what contracts say of a run from an instruction on, and of one step
abbrev pub RunOf : (m n : MemoryState) (at many : ℕ) → Reached → List Instruction → List Span → List Primitive → Type 0
RunOf m n at many out ins es qs =
    (w : World) (s : Store) → IsSound w (length (cells_of m)) ins es qs → Sees w at s (cells_of m) (others_of m)
    → IsSafeAhead w many (w.places (entry ins at)) s → AreRun w ins at s many out (cells_of n) (others_of n)

abbrev pub StepOf : (m n : MemoryState) (at : ℕ) → Result ℕ Stop → List Instruction → List Span → List Primitive → Type 0
StepOf m n at out ins es qs =
    (w : World) (s : Store) → TakesStep w (length (cells_of m)) ins es qs at → Sees w at s (cells_of m) (others_of m)
    → meaning.step w.outside (w.places at) s ≢ Halt Broken → IsOneStep w ins at s out (cells_of n) (others_of n)

-- a fact of three lists, which are others
pub of-lists : (P : List Instruction → List Span → List Primitive → Type 0) (ins jns : List Instruction) (es fs : List Span) (qs rs : List Primitive)
    → ins ≡ jns → es ≡ fs → qs ≡ rs → P ins es qs → P jns fs rs
of-lists P ins jns es fs qs rs a b c x = subst (λ ins. P ins fs rs) a (subst (λ es. P ins es rs) b (subst (λ qs. P ins es qs) c x))

to-place : (p q : Place) (s t : Store) → To p s ≡ To q t → s ≡ t
to-place p q s t e = cc

module _ (m : MemoryState) (top : ℕ) (calls : List OpenCall) (i : AreIn m top calls) (row : Row) (cells : HasCellRoom row (frames_in m top calls))
    (r : MemoryState) (reach : r ≡ reached m (m.base + row.width)) (wide : length r.contents ≡ length r.numbers)
    (free : r.spare + stacks_among r.contents ≡ live_stack_limit) (n : MemoryState) (before : front_of n ≡ front_of r)
    (size : length (cells_of n) ≡ length (cells_of r)) (spare : n.spare + stacks_among n.contents ≡ live_stack_limit) where
  -- ---- from an instruction on

  module _ (at many : ℕ) (out : Reached) (there : IsBody row.instructions.items out.at)
      (run : RunOf r n at many out row.instructions.items row.spans.items row.primitives.items) where
    abbrev beyond : FramesState
    beyond = frames_in n (n.base + sight_of row out.at) calls

    ran : (w : World) → IsRunnable w row at (undeclared (frames_in m top calls))
        → IsSafeAhead w many (w.places (entry row.instructions.items at)) (frames_in m top calls).slots
        → AreRun w row.instructions.items at (frames_in m top calls).slots many out (cells_of n) (others_of n)
    ran w a safe = run w (frames_in m top calls).slots (a.sound (length (cells_of r)) (has-cells m top calls i row cells r reach wide))
        (start m top calls i row cells r reach wide w at (a.sight at) a.size a.stacks a.values) safe

    pub run-in : IsSafeRunOn row at many (undeclared (frames_in m top calls)) → AreIn n (n.base + sight_of row out.at) calls
    run-in asked =
        let x = ran asked.0 asked.1 asked.2 in
        left-in m top calls i row cells r reach wide free n before size spare asked.0 out.at (asked.1.sight out.at) there.there x.leads.store x.leads.sees

    pub run-kept : IsSafeRunOn row at many (undeclared (frames_in m top calls))
        → KeepsCalls (frames_in m top calls) (frames_in n (n.base + sight_of row out.at) calls)
    run-kept asked =
        let x = ran asked.0 asked.1 asked.2 in
        left-kept m top calls i row cells r reach wide free n before size spare asked.0 out.at (asked.1.sight out.at) there.there x.leads.store x.leads.sees

    pub run-size : IsSafeRunOn row at many (undeclared (frames_in m top calls))
        → size_of (frames_in n (n.base + sight_of row out.at) calls).slots ≡ sight_of row out.at
    run-size asked =
        let x = ran asked.0 asked.1 asked.2 in
        left-size m top calls i row cells r reach wide free n before size spare asked.0 out.at (asked.1.sight out.at) there.there x.leads.store x.leads.sees

    pub run-runs : RunsOn row at many out (undeclared (frames_in m top calls)) (undeclared (frames_in n (n.base + sight_of row out.at) calls))
    run-runs = λ w a safe.
        let x = ran w a safe in
        let e = left-slots m top calls i row cells r reach wide free n before size spare w out.at (a.sight out.at) there.there x.leads.store x.leads.sees in
        record {
          steps = x.leads.steps ∙ ap (To (w.places (entry row.instructions.items out.at))) (sym e);
          ends = subst (λ s. IsStopped w row.instructions.items out s out.stop) (sym e) x.ends;
          again = runnable-left m top calls i row cells r reach wide free n before size spare w out.at (a.sight out.at) there.there
              x.leads.store x.leads.sees a.sound a.sight;
        }

    -- where none is taken
    pub run-stays : IsSafeRunOn row at many (undeclared (frames_in m top calls))
        → IsWritten (many - (out.left + lead_at row.instructions.items at)) r.writes n.writes → out.left ≡ many
        → frames_in n (n.base + sight_of row out.at) calls ≡ frames_in m top calls
    run-stays asked written none =
        let w = asked.0 in
        let x = ran w asked.1 asked.2 in
        let e = left-slots m top calls i row cells r reach wide free n before size spare w out.at (asked.1.sight out.at) there.there x.leads.store
        x.leads.sees in
        let l = left-kept m top calls i row cells r reach wide free n before size spare w out.at (asked.1.sight out.at) there.there x.leads.store
        x.leads.sees in
        let zero_left : many - out.left ≡ 0 = omega (arith, none) in
        let still : To (w.places (entry row.instructions.items at)) (frames_in m top calls).slots
        ≡ To (w.places (entry row.instructions.items out.at)) x.leads.store =
        subst (λ j. meaning.steps w.outside j (w.places (entry row.instructions.items at)) (frames_in m top calls).slots
        ≡ To (w.places (entry row.instructions.items out.at)) x.leads.store) zero_left x.leads.steps in
        let written_is : r.writes ≡ m.writes = ap (λ (r : MemoryState). r.writes) reach in
        let results_is : n.results ≡ m.results = ap (λ b. b.results) before ∙ ap (λ (r : MemoryState). r.results) reach in
        same-state beyond (frames_in m top calls)
        (e ∙ sym (to-place (w.places (entry row.instructions.items at)) (w.places (entry row.instructions.items out.at)) (frames_in m top calls).slots
        x.leads.store still)) l.callers l.room results_is (omega (arith, written, none, written_is))

  -- ---- one instruction

  module _ (at : ℕ) (out : Result ℕ Stop) (step : StepOf r n at out row.instructions.items row.spans.items row.primitives.items) where
    stepped : (w : World) → IsRunnableOnce w row at (undeclared (frames_in m top calls))
        → IsOneStep w row.instructions.items at (frames_in m top calls).slots out (cells_of n) (others_of n)
    stepped w a = step w (frames_in m top calls).slots (a.step (length (cells_of r)) (has-cells m top calls i row cells r reach wide))
        (start m top calls i row cells r reach wide w at (a.sight at) a.size a.stacks a.values) (λ e. a.safe e)

    -- it is taken, and the place q is next
    module _ (q : ℕ) (is : out ≡ Ok q) (lt : body_at row.instructions.items q < length row.instructions.items) where
      taken : (w : World) → IsRunnableOnce w row at (undeclared (frames_in m top calls))
          → IsStepTo w row.instructions.items at (frames_in m top calls).slots q (cells_of n) (others_of n)
      taken w a = subst (λ out. IsOneStep w row.instructions.items at (frames_in m top calls).slots out (cells_of n) (others_of n)) is (stepped w a)

      pub step-in : (w : World) → IsRunnableOnce w row at (undeclared (frames_in m top calls))
          → AreIn n (n.base + sight_of row (body_at row.instructions.items q)) calls
      step-in w a =
          let x = taken w a in
          left-in m top calls i row cells r reach wide free n before size spare w (body_at row.instructions.items q)
          (a.sight (body_at row.instructions.items q)) lt x.store x.sees

      pub step-kept : (w : World) → IsRunnableOnce w row at (undeclared (frames_in m top calls))
          → KeepsCalls (frames_in m top calls) (frames_in n (n.base + sight_of row (body_at row.instructions.items q)) calls)
      step-kept w a =
          let x = taken w a in
          left-kept m top calls i row cells r reach wide free n before size spare w (body_at row.instructions.items q)
          (a.sight (body_at row.instructions.items q)) lt x.store x.sees

      pub step-size : (w : World) → IsRunnableOnce w row at (undeclared (frames_in m top calls))
          → size_of (frames_in n (n.base + sight_of row (body_at row.instructions.items q)) calls).slots ≡ sight_of row (body_at row.instructions.items q)
      step-size w a =
          let x = taken w a in
          left-size m top calls i row cells r reach wide free n before size spare w (body_at row.instructions.items q)
          (a.sight (body_at row.instructions.items q)) lt x.store x.sees

      pub step-runs : RunsOnce row at (Ok q) (undeclared (frames_in m top calls))
          (undeclared (frames_in n (n.base + sight_of row (body_at row.instructions.items q)) calls))
      step-runs = λ w a.
          let x = taken w a in
          x.step ∙ ap (To (w.places q))
          (sym (left-slots m top calls i row cells r reach wide free n before size spare w (body_at row.instructions.items q)
          (a.sight (body_at row.instructions.items q)) lt x.store x.sees))

    -- it is not taken
    module _ (stop : Stop) (is : out ≡ Err stop) (there : at < length row.instructions.items) where
      refused : (w : World) → IsRunnableOnce w row at (undeclared (frames_in m top calls))
          → IsRefused w (instruction_at row.instructions.items at).op (w.places at) (frames_in m top calls).slots stop
          × Sees w at (frames_in m top calls).slots (cells_of n) (others_of n)
      refused w a = subst (λ out. IsOneStep w row.instructions.items at (frames_in m top calls).slots out (cells_of n) (others_of n)) is (stepped w a)

      -- as many names are in sight there
      top-is : (w : World) → IsRunnableOnce w row at (undeclared (frames_in m top calls)) → n.base + sight_of row at ≡ top
      top-is w a =
          let b : n.base ≡ r.base = ap (λ b. b.base) before in
          let c : r.base ≡ m.base = ap (λ (r : MemoryState). r.base) reach in
          let s = size-stored (from (val_at m) m.base) (top - m.base) in
          let o = i.frames.order in
          omega (arith, b, c, s, o, a.size)

      pub refused-in : (w : World) → IsRunnableOnce w row at (undeclared (frames_in m top calls)) → AreIn n top calls
      refused-in w a =
          subst (λ t. AreIn n t calls) (top-is w a)
          (left-in m top calls i row cells r reach wide free n before size spare w at (a.sight at) there (frames_in m top calls).slots (refused w a).1)

      pub refused-same : (w : World) → IsRunnableOnce w row at (undeclared (frames_in m top calls)) → n.writes ≡ r.writes
          → frames_in n top calls ≡ frames_in m top calls
      refused-same w a e =
          let x = (refused w a).1 in
          let l = left-kept m top calls i row cells r reach wide free n before size spare w at (a.sight at) there (frames_in m top calls).slots x in
          ap (λ t. frames_in n t calls) (sym (top-is w a))
          ∙ same-state (frames_in n (n.base + sight_of row at) calls) (frames_in m top calls)
          (left-slots m top calls i row cells r reach wide free n before size spare w at (a.sight at) there (frames_in m top calls).slots x)
          l.callers l.room (ap (λ b. b.results) before ∙ ap (λ (r : MemoryState). r.results) reach) (e ∙ ap (λ (r : MemoryState). r.writes) reach)

      pub refused-runs : (new : FramesState) → new ≡ frames_in m top calls
          → RunsOnce row at (Err stop) (undeclared (frames_in m top calls)) (undeclared new)
      refused-runs new e = λ w a. ((refused w a).0, ap undeclared e)
