-- A row is run over stores of the same names in the same calls, and what a store holds stays right.
use Rattle.std.proofs.Common.{◌≡◌, ℕ, ◌+◌, ◌-◌, ◌<◌, ◌≤◌, List, [], ◌∷◌, length, refl, ap, ◌∙◌, sym, subst, arith, Result, Ok, Err, Bool, true, false, cond}
use Rattle.std.specs.Prelude.{OnErr}
use Rattle.janus_meaning.specs.Syntax.{Name}
use Rattle.janus_meaning.specs.World.{size_of, stacks_in}
use Rattle.janus_meaning.specs.Stepping as meaning
use Rattle.janus_meaning.specs.Stepping.{To}
use Rattle.janus_row.specs.Rows.{instruction_at, is_tick, body_at, entry, sight_of, IsRow}
use Rattle.janus_row.specs.Sound.{World, IsSafeAhead, IsRefused, IsStopped}
use Rattle.janus_row.specs.declared.code.Instruction.{Instruction}
use Rattle.janus_row.specs.declared.code.Row.{Row}
use Rattle.janus_row.specs.declared.fault.Stop.{Stop}
use Rattle.janus_row.specs.declared.slice.Reached.{Reached}
use Rattle.janus_frames.specs.Calls.{Caller, AreShort, names_lent, stacks_lent, values_lent, params_bound, own_names}
use Rattle.janus_frames.specs.FramesState.{FramesState}
use Rattle.janus_frames.specs.Kept.{AreHeld, outer_size}
use Rattle.janus_frames.specs.Run.{HasRowRoom, IsRunnable, IsRunnableOnce, IsRunOnce, RunsOnce, RunsOn, HasCellRoom, KeepsCalls}
use Rattle.janus_frames.specs.StoreState.{StoreState, state_of}
use Rattle.janus_frames.proofs.Sizes.{params-few}

-- ---- the same names

module _ (row : Row) (g h : StoreState) (slots : g.slots ≡ h.slots) (callers : g.callers ≡ h.callers) where
  same-size : size_of h.slots ≡ size_of g.slots
  same-size = ap size_of (sym slots)

  same-stacks : stacks_in h.slots + stacks_lent h.callers ≡ stacks_in g.slots + stacks_lent g.callers
  same-stacks = ap (λ s. stacks_in s + stacks_lent h.callers) (sym slots) ∙ ap (λ cs. stacks_in g.slots + stacks_lent cs) (sym callers)

  same-values : values_lent h.callers ≡ values_lent g.callers
  same-values = ap values_lent (sym callers)

  pub runnable-as : (w : World) (at : ℕ) → IsRunnable w row at g → IsRunnable w row at h
  runnable-as w at r = record {
    sound = r.sound;
    sight = r.sight;
    size = same-size ∙ r.size;
    stacks = same-stacks ∙ r.stacks;
    values = same-values ∙ r.values;
  }

  pub runnable-once-as : (w : World) (at : ℕ) → IsRunnableOnce w row at g → IsRunnableOnce w row at h
  runnable-once-as w at r = record {
    step = r.step;
    sight = r.sight;
    size = same-size ∙ r.size;
    stacks = same-stacks ∙ r.stacks;
    values = same-values ∙ r.values;
    safe = λ e. r.safe (ap (meaning.step w.outside (w.places at)) slots ∙ e);
  }

module _ (row : Row) (at : ℕ) (g h i j : StoreState) (old : g.slots ≡ h.slots) (in_old : g.callers ≡ h.callers) (new : i.slots ≡ j.slots)
    (in_new : i.callers ≡ j.callers) where
  pub runs-on-as : (m : ℕ) (r : Reached) → RunsOn row at m r g i → RunsOn row at m r h j
  runs-on-as m r runs = λ w a safe.
      let from = w.places (entry row.instructions.items at) in
      let x = runs w (runnable-as row h g (sym old) (sym in_old) w at a) (subst (IsSafeAhead w m from) (sym old) safe) in
      record {
        steps = ap (meaning.steps w.outside (m - r.left) from) (sym old) ∙ x.steps ∙ ap (To (w.places (entry row.instructions.items r.at))) new;
        ends = subst (λ s. IsStopped w row.instructions.items r s r.stop) new x.ends;
        again = runnable-as row i j new in_new w r.at x.again;
      }

  once-as : (w : World) (r : Result ℕ Stop) → OnErr r (j ≡ h) → IsRunOnce w row at r g i → IsRunOnce w row at r h j
  once-as w (Ok q) e x = ap (meaning.step w.outside (w.places at)) (sym old) ∙ x ∙ ap (To (w.places q)) new
  once-as w (Err f) e x = (subst (λ s. IsRefused w (instruction_at row.instructions.items at).op (w.places at) s f) old x.0, e)

  pub runs-once-as : (r : Result ℕ Stop) → OnErr r (j ≡ h) → RunsOnce row at r g i → RunsOnce row at r h j
  runs-once-as r e runs = λ w a. once-as w r e (runs w (runnable-once-as row h g (sym old) (sym in_old) w at a))

-- ---- room

body-case : (row : List Instruction) (at : ℕ) (b : Bool) → is_tick (instruction_at row at).op ≡ b → IsRow row → at < length row
    → cond b (instruction_at row at).next at < length row
body-case row at true e r lt = (r.ticks at lt e).body.there
body-case row at false e r lt = lt

pub body-there : (row : List Instruction) (at : ℕ) → IsRow row → at < length row → body_at row at < length row
body-there row at r lt = body-case row at (is_tick (instruction_at row at).op) refl r lt

own-least : (d : ℕ) (cs : List Caller) → own_names 0 cs ≤ own_names d cs
own-least d [] = omega arith
own-least d (c ∷ cs) = omega arith

own-outer : (d n m : ℕ) (cs : List Caller) → own_names d cs ≤ m → d ≤ outer_size n cs → d ≤ outer_size m cs
own-outer d n m [] l h = l
own-outer d n m (c ∷ cs) l h = h

module _ (f : FramesState) (d : ℕ) (ts : List Name) (h : AreHeld f d ts) (row : Row) (room : HasRowRoom row (state_of f.slots d ts f.callers f.writes)) where
  -- the cells of the row have room
  pub cell-room : HasCellRoom row f
  cell-room = record {
    sights = λ k lt. room.sights k lt;
    wide = room.wide;
    own = λ k lt. let o = room.own k lt in let l = own-least d f.callers in omega (arith, o, l);
    cells = let p = params-few f.callers h.short in let n = h.calls in let r = h.room in
        let w = room.width in let l = room.names in omega (arith, p, n, r, w, l);
  }

  -- other names stand there, as many as are in sight at a place of the row
  pub held-ran : (g : FramesState) (k : ℕ) → k < length row.instructions.items → size_of g.slots ≡ sight_of row k → KeepsCalls f g → AreHeld g d ts
  held-ran g k lt size kept =
      let c = kept.callers in
      let n : names_lent g.callers ≡ names_lent f.callers = ap names_lent c in
      let p : params_bound g.callers ≡ params_bound f.callers = ap params_bound c in
      let l : length g.callers ≡ length f.callers = ap length c in
      let o = room.own k lt in
      let own : own_names d f.callers ≤ size_of g.slots = omega (arith, o, size) in
      let s = room.sights k lt in
      let all = room.names in
      record {
        one_text = h.one_text;
        many = h.many;
        declared = subst (λ cs. d ≤ outer_size (size_of g.slots) cs) (sym c) (own-outer d (size_of f.slots) (size_of g.slots) f.callers own h.declared);
        few = omega (arith, s, all, size, n, p);
        short = subst AreShort (sym c) h.short;
        calls = let e = h.calls in omega (arith, e, l);
        room = let e = h.room in let r = kept.room in omega (arith, e, r);
      }

-- ---- the same frames, where other cells are for results

pub told-room : (f : FramesState) (row : Row) (r : ℕ) → HasCellRoom row f → HasCellRoom row (record f { results = r })
told-room f row r c = record { sights = c.sights; wide = c.wide; own = c.own; cells = c.cells }

pub told-kept : (f h g : FramesState) (r : ℕ) → h ≡ record f { results = r } → KeepsCalls h g → KeepsCalls f g
told-kept f h g r e k = record { callers = k.callers ∙ ap (λ (h : FramesState). h.callers) e; room = k.room ∙ ap (λ (h : FramesState). h.room) e }
