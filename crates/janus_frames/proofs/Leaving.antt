-- Frames as a call is left, and as one is entered.
use Rattle.std.proofs.Common.{◌≡◌, ℕ, ◌+◌, ◌-◌, ◌<◌, ◌≤◌, List, ◌∷◌, length, get_or, refl, ap, ◌∙◌, sym, subst, arith, cond}
use Rattle.janus_meaning.specs.Fault.{Fine}
use Rattle.janus_meaning.specs.Store.{Val, Lent, Store, pull, unbind, fill}
use Rattle.janus_frames.specs.Cells.{stored, IsPresent, from, AreBelow, AreApart, has, parameters}
use Rattle.janus_frames.specs.Calls.{Enters, Returns, names_of, slots_of}
use Rattle.janus_frames.specs.Inside.{AreFrames, AreCounted, AreNested, AreLent, AreIn, HoldsAlike, state_at, callers_of, frames_in}
use Rattle.janus_frames.specs.FramesState.{stacks_there}
use Rattle.janus_memory.specs.Memory.{MemoryState, Plain, val_at, content_at, values_among}
use Rattle.janus_frames.specs.declared.frames.OpenCall.{OpenCall}
use Rattle.janus_frames.proofs.Calling.{AreMoved, AreGiven, as-many, entered, left, lent-frame, new-present, back-present}
use Rattle.janus_frames.proofs.Counted.{counted-entered, counted-left}
use Rattle.janus_frames.proofs.Holding.{nested-same, callers-same, enough}
use Rattle.janus_frames.proofs.Reading.{can-lend}
use Rattle.janus_frames.proofs.Stored.{unbind-all, ArePresent, down}

-- ---- a call is left

module _ (old new : ℕ → Val) (base top : ℕ) (call : OpenCall) (rest : List OpenCall) (f : AreFrames old base top (call ∷ rest))
    (alone : top - base ≡ length (slots_of call.args)) (m : AreGiven old new call.base base (slots_of call.args)) where
  l_present : (k : ℕ) → k < length (slots_of call.args) → IsPresent (old (base + k))
  l_present k h = f.present k (omega (arith, alone, h))

  l_below : (p : ℕ) → p < call.base → old p ≡ new p
  l_below p l = sym (m.before p l)

  pub left-frames : AreFrames new call.base base rest
  left-frames =
      let n = f.nested in
      record {
        order = n.0;
        present = back-present old new call.base base (slots_of call.args) m n.2 l_present;
        nested = nested-same old new call.base (base - call.base) (base - call.base) rest n.3
            (enough old call.base (base - call.base) (base - call.base) rest (omega arith) n.3) l_below;
      }

  l_filled : (vs : List Val) → unbind (parameters (length (names_of call.args))) (stored (from old base) (top - base)) ≡ Fine vs
      → fill (names_of call.args) vs (stored (from old call.base) (base - call.base))
      ≡ Fine (stored (from new call.base) (base - call.base))
  l_filled vs h =
      let n = f.nested in
      let many = as-many (slots_of call.args) in
      left old new call.base base (slots_of call.args) vs m n.2 l_present
      (ap (λ k. unbind (parameters k) (stored (from old base) (length (slots_of call.args)))) (sym many)
      ∙ ap (λ k. unbind (parameters (length (names_of call.args))) (stored (from old base) k)) (sym alone) ∙ h)

  pub left-returns : Returns (callers_of old base (call ∷ rest)) (stored (from old base) (top - base))
      (stored (from new call.base) (base - call.base)) (callers_of new call.base rest)
  left-returns = (sym (callers-same old new call.base (base - call.base) rest f.nested.3 l_below), l_filled)

  l_told : unbind (parameters (length (names_of call.args))) (stored (from old base) (top - base))
      ≡ Fine (down (from old base) (length (names_of call.args)))
  l_told =
      let many = as-many (slots_of call.args) in
      ap (λ k. unbind (parameters (length (names_of call.args))) (stored (from old base) k)) (alone ∙ sym many)
      ∙ unbind-all (from old base) (length (names_of call.args))

  pub left-counted : (spare values room results writes : ℕ) → AreCounted spare values (state_at old base top (call ∷ rest) room results writes)
      → AreCounted spare values (state_at new call.base base rest room results writes)
  left-counted spare values room results writes h =
      counted-left spare values (state_at old base top (call ∷ rest) room results writes) (state_at new call.base base rest room results writes)
      (record { args = names_of call.args; store = stored (from old call.base) (base - call.base) }) (callers_of old call.base rest)
      (down (from old base) (length (names_of call.args))) refl l_told left-returns h

-- the memory behind that
module _ (m n : MemoryState) (top : ℕ) (call : OpenCall) (rest : List OpenCall) (i : AreIn m top (call ∷ rest))
    (alone : top - m.base ≡ length (slots_of call.args)) (g : AreGiven (val_at m) (val_at n) call.base m.base (slots_of call.args)) (h : HoldsAlike m n)
    (above : (p : ℕ) → m.base ≤ p → content_at n p ≡ Plain) where
  pub left-in : AreIn (record n { base = call.base }) m.base rest
  left-in =
      let x = left-counted (val_at m) (val_at n) m.base top call rest i.frames alone g m.spare (values_among m.contents) m.room m.results m.writes i.counted in
      let s = h.spare in
      let v = h.values in
      let l = h.size in
      let o = i.frames.order in
      let long = i.long in
      let xs = x.stacks in
      let xv = x.values in
      record {
        frames = left-frames (val_at m) (val_at n) m.base top call rest i.frames alone g;
        counted = record { stacks = ap (λ s. s + stacks_there (state_at (val_at n) call.base m.base rest m.room m.results m.writes)) s ∙ xs; values = v ∙ xv };
        above = above;
        long = omega (arith, l, o, long);
      }

-- ---- a call is entered

-- values that were moved, where other cells were reached before
pub moved-front : (old mid new : ℕ → Val) (base top : ℕ) (xs : List ℕ) → AreMoved mid new base top xs → ((p : ℕ) → mid p ≡ old p) → AreMoved old new base top xs
moved-front old mid new base top xs m h = record {
  before = λ p l. m.before p l ∙ h p;
  frame = λ k l. m.frame k l ∙ ap (cond (has xs k) Lent) (h (base + k));
  moved = λ i l. m.moved i l ∙ h (base + get_or xs i 0);
}

module _ (old new : ℕ → Val) (base top : ℕ) (call : OpenCall) (calls : List OpenCall) (f : AreFrames old base top calls)
    (at : call.base ≡ base)
    (t : List Val × Store) (can : pull (names_of call.args) (stored (from old base) (top - base)) ≡ Fine t)
    (m : AreMoved old new base top (slots_of call.args)) where
  e_can : AreBelow (top - base) (slots_of call.args) × AreApart (slots_of call.args) × ArePresent (from old base) (slots_of call.args)
  e_can = can-lend (from old base) (top - base) (slots_of call.args) t can

  e_below : (p : ℕ) → p < base → old p ≡ new p
  e_below p l = sym (m.before p l)

  pub entered-frames : AreFrames new top (top + length (slots_of call.args)) (call ∷ calls)
  entered-frames =
      let o = f.order in
      let n : length (slots_of call.args) ≤ top + length (slots_of call.args) - top = omega arith in
      record {
        order = omega arith;
        present = λ k h. new-present old new base top (slots_of call.args) m e_can.0 f.present k (omega (arith, h));
        nested = (
          omega (arith, o, at),
          n,
          subst (λ b. AreLent new b (top - b) (slots_of call.args)) (sym at)
              (lent-frame old new base top (slots_of call.args) m e_can.0 e_can.1 f.present),
          subst (λ b. AreNested new b (top - b) calls) (sym at)
              (nested-same old new base (top - base) (top - base) calls f.nested
              (enough old base (top - base) (top - base) calls (omega arith) f.nested) e_below),
        );
      }

  e_callers : callers_of new top (call ∷ calls)
      ≡ record { args = names_of call.args; store = stored (from new base) (top - base) } ∷ callers_of old base calls
  e_callers =
      ap (λ b. record { args = names_of call.args; store = stored (from new b) (top - b) } ∷ callers_of new b calls) at
      ∙ ap (λ r. record { args = names_of call.args; store = stored (from new base) (top - base) } ∷ r)
      (sym (callers-same old new base (top - base) calls f.nested e_below))

  pub entered-enters : Enters (names_of call.args) (stored (from old base) (top - base)) (callers_of old base calls)
      (stored (from new top) (top + length (slots_of call.args) - top)) (callers_of new top (call ∷ calls))
  entered-enters u h =
      let e = entered old new base top (slots_of call.args) u m e_can.0 e_can.1 e_can.2 h in
      let z : length (slots_of call.args) ≡ top + length (slots_of call.args) - top = omega arith in (
        e.0 ∙ ap (λ n. Fine (stored (from new top) n)) z,
        e_callers ∙ ap (λ s. record { args = names_of call.args; store = s } ∷ callers_of old base calls) (sym e.1),
      )

  pub entered-counted : (spare values room results writes : ℕ) → AreCounted spare values (state_at old base top calls room results writes)
      → AreCounted spare values (state_at new top (top + length (slots_of call.args)) (call ∷ calls) room results writes)
  entered-counted spare values room results writes h =
      counted-entered spare values (state_at old base top calls room results writes)
      (state_at new top (top + length (slots_of call.args)) (call ∷ calls) room results writes) (names_of call.args) (t, can) entered-enters h

-- the memory behind that
module _ (m n : MemoryState) (top : ℕ) (call : OpenCall) (calls : List OpenCall) (i : AreIn m top calls) (at : call.base ≡ m.base) (t : List Val × Store)
    (can : pull (names_of call.args) (frames_in m top calls).slots ≡ Fine t) (g : AreMoved (val_at m) (val_at n) m.base top (slots_of call.args))
    (s : n.spare ≡ m.spare) (v : values_among n.contents ≡ values_among m.contents) (long : top + length (slots_of call.args) ≤ length n.numbers)
    (above : (p : ℕ) → top + length (slots_of call.args) ≤ p → content_at n p ≡ Plain) where
  pub entered-in : AreIn (record n { base = top }) (top + length (slots_of call.args)) (call ∷ calls)
  entered-in =
      let x = entered-counted (val_at m) (val_at n) m.base top call calls i.frames at t can g m.spare (values_among m.contents) m.room m.results m.writes i.counted in
      let xs = x.stacks in
      let xv = x.values in
      record {
        frames = entered-frames (val_at m) (val_at n) m.base top call calls i.frames at t can g;
        counted = record {
          stacks = ap (λ s. s + stacks_there (state_at (val_at n) top (top + length (slots_of call.args)) (call ∷ calls) m.room m.results m.writes)) s ∙ xs;
          values = v ∙ xv;
        };
        above = above;
        long = long;
      }
