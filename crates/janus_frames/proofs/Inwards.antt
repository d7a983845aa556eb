-- The place that a name of the outermost frame is followed to.
use Rattle.std.proofs.Common.{◌≡◌, ℕ, ◌+◌, ◌-◌, ◌<◌, ◌≤◌, Bool, true, false, ltb, List, refl, ap, ◌∙◌, subst, arith, cond}
use Rattle.std.proofs.lemmas.Bool.{ltb-true, ltb-false}
use Rattle.janus_meaning.specs.Fault.{Fine}
use Rattle.janus_meaning.specs.Store.{Val, Lent, look}
use Rattle.janus_meaning.specs.World.{size_of}
use Rattle.janus_slots.specs.Slots.{slot}
use Rattle.janus_frames.specs.Calls.{given_back}
use Rattle.janus_memory.specs.Memory.{MemoryState, val_at}
use Rattle.janus_frames.specs.Cells.{from, stored, IsPresent}
use Rattle.janus_frames.specs.Inside.{AreIn, frames_in, AreNested}
use Rattle.janus_frames.specs.Shown.{through, outer_count}
use Rattle.janus_frames.specs.declared.frames.OpenCall.{OpenCall}
use Rattle.janus_frames.proofs.Following.{given-back-is, through-present, outer-low}
use Rattle.janus_frames.proofs.Holding.{nested-same, enough}
use Rattle.janus_frames.proofs.Reading.{size-stored, look-there}

-- the values below a place, and behind it none
abbrev below_top : ℕ → (ℕ → Val) → ℕ → Val
below_top top v p = cond (ltb p top) (v p) Lent

below_same : (top : ℕ) (v : ℕ → Val) (p : ℕ) → p < top → v p ≡ below_top top v p
below_same top v p h = by (ltb p top) refl
  where
    by : (b : Bool) → ltb p top ≡ b → v p ≡ cond b (v p) Lent
    by true e = refl
    by false e = let l = ltb-false p top e in absurd (omega (arith, h, l))

below_low : (top : ℕ) (v : ℕ → Val) (p : ℕ) → IsPresent (below_top top v p) → p < top
below_low top v p h = by (ltb p top) refl h
  where
    by : (b : Bool) → ltb p top ≡ b → IsPresent (cond b (v p) Lent) → p < top
    by true e g = ltb-true p top e
    by false e g = absurd g

module _ (m : MemoryState) (top : ℕ) (calls : List OpenCall) (i : AreIn m top calls) where
  back_is : given_back (frames_in m top calls).slots (frames_in m top calls).callers
      ≡ stored (through (val_at m) (from (val_at m) m.base) calls) (outer_count (top - m.base) m.base calls)
  back_is = given-back-is (val_at m) (from (val_at m) m.base) m.base (top - m.base) calls i.frames.nested i.frames.present

  pub outer-at : (k : ℕ) → k < size_of (given_back (frames_in m top calls).slots (frames_in m top calls).callers) → k < outer_count (top - m.base) m.base calls
  outer-at k h =
      subst (λ n. k < n) (ap size_of back_is ∙ size-stored (through (val_at m) (from (val_at m) m.base) calls) (outer_count (top - m.base) m.base calls)) h

  pub outer-top : outer_count (top - m.base) m.base calls ≤ top
  outer-top = let l = outer-low (val_at m) m.base (top - m.base) calls i.frames.nested in let o = i.frames.order in omega (arith, l, o)

  pub shown-look : (k : ℕ) → k < outer_count (top - m.base) m.base calls
      → look (slot k) (given_back (frames_in m top calls).slots (frames_in m top calls).callers)
      ≡ Fine (through (val_at m) (from (val_at m) m.base) calls k)
  shown-look k h =
      ap (look (slot k)) back_is
      ∙ look-there (through (val_at m) (from (val_at m) m.base) calls) (outer_count (top - m.base) m.base calls) k h
      (through-present (val_at m) (from (val_at m) m.base) m.base (top - m.base) calls i.frames.nested i.frames.present k h)

  module _ (k place : ℕ) (h : k < outer_count (top - m.base) m.base calls)
      (same : (w : ℕ → Val) → through w (from w m.base) calls k ≡ w place) where
    pub found-present : IsPresent (val_at m place)
    found-present =
        subst IsPresent (same (val_at m)) (through-present (val_at m) (from (val_at m) m.base) m.base (top - m.base) calls i.frames.nested i.frames.present k h)

    pub place-low : place < top
    place-low =
        let w = below_top top (val_at m) in
        let o = i.frames.order in
        let nested : AreNested w m.base (top - m.base) calls =
        nested-same (val_at m) w m.base (top - m.base) (top - m.base) calls i.frames.nested
        (enough (val_at m) m.base (top - m.base) (top - m.base) calls (omega arith) i.frames.nested)
        (λ p l. below_same top (val_at m) p (omega (arith, l, o))) in
        let present : (j : ℕ) → j < top - m.base → IsPresent (w (m.base + j)) =
        λ j l. subst IsPresent (below_same top (val_at m) (m.base + j) (omega (arith, l, o))) (i.frames.present j l) in
        below_low top (val_at m) place (subst IsPresent (same w) (through-present w (from w m.base) m.base (top - m.base) calls nested present k h))
