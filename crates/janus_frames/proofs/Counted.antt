-- The stacks that live and what they hold are counted, as names change, come and go, and as calls are entered and left.
use Rattle.std.proofs.Common.{◌≡◌, ◌≢◌, ℕ, ◌+◌, ◌-◌, ◌<◌, List, ◌∷◌, length, refl, ap, ◌∙◌, sym, arith}
use Rattle.janus_meaning.specs.Fault.{Fine}
use Rattle.janus_meaning.specs.Syntax.{Name}
use Rattle.janus_meaning.specs.Store.{Val, Lent, Store, Slot, unbind, total, held_by, held_in}
use Rattle.janus_meaning.specs.World.{stacks_in}
use Rattle.janus_meaning.proofs.Results.{fine_inj}
use Rattle.janus_slots.specs.Slots.{slot}
use Rattle.janus_frames.specs.Cells.{stored, IsPresent, from, parameters}
use Rattle.janus_frames.specs.Calls.{Caller, CanLend, Enters, Returns, stacks_lent, values_lent}
use Rattle.janus_frames.specs.FramesState.{FramesState, stacks_there, values_there}
use Rattle.janus_frames.specs.Inside.{AreFrames, AreCounted, state_at, callers_of}
use Rattle.janus_frames.specs.declared.frames.OpenCall.{OpenCall}
use Rattle.janus_frames.proofs.Stored.{with, take-at}
use Rattle.janus_frames.proofs.Holding.{changed-written, changed-callers}
use Rattle.janus_frames.proofs.Totals.{one_stack, lent_total, stacks-total, stacks-all, values-all, written-total, entered-total, left-total}

-- one value is another one
module _ (v w : ℕ → Val) (base top k : ℕ) (cs : List OpenCall) (f : AreFrames v base top cs) (l : k < top - base)
    (other : (q : ℕ) → q < top → q ≢ base + k → w q ≡ v q) (p : IsPresent (w (base + k))) where
  changed-total : (count : Val → ℕ) → count Lent ≡ 0
      → total count (stored (from w base) (top - base)) + count (v (base + k)) ≡ total count (stored (from v base) (top - base)) + count (w (base + k))
  changed-total count lent =
      written-total count lent (slot k) (w (base + k)) (v (base + k)) (stored (from v base) (top - base)) (stored (from w base) (top - base))
      (changed-written v w base top k cs f l other p)
      (λ t e. ap (λ (t : Val × Store). t.0)
      (fine_inj t (v (base + k), stored (with k Lent (from v base)) (top - base)) (sym e ∙ take-at (from v base) (top - base) k l (f.present k l))))

  pub changed-counted : (spare a b room results x y : ℕ) → AreCounted spare a (state_at v base top cs room results x)
      → one_stack (w (base + k)) ≡ one_stack (v (base + k)) → b + held_by (v (base + k)) ≡ a + held_by (w (base + k))
      → AreCounted spare b (state_at w base top cs room results y)
  changed-counted spare many more room results x y h e g =
      let c = changed-callers v w base top k cs f l other p in
      let a = changed-total one_stack refl in
      let b = changed-total held_by refl in
      let s : stacks_lent (callers_of w base cs) ≡ stacks_lent (callers_of v base cs) = ap stacks_lent c in
      let t : values_lent (callers_of w base cs) ≡ values_lent (callers_of v base cs) = ap values_lent c in
      let x = stacks-total (stored (from w base) (top - base)) in
      let y = stacks-total (stored (from v base) (top - base)) in
      let hs = h.stacks in
      let hv = h.values in
      record { stacks = omega (arith, hs, a, s, x, y, e); values = omega (arith, hv, b, t, g) }

-- one name more
pub counted-more : (spare less values : ℕ) (old new : FramesState) (x : Name) (v : Val) → new.slots ≡ Slot x v old.slots
    → new.callers ≡ old.callers → less + one_stack v ≡ spare → held_by v ≡ 0 → AreCounted spare values old → AreCounted less values new
counted-more spare less values old new x v e c n z h =
    let a : stacks_in new.slots ≡ stacks_in (Slot x v old.slots) = ap stacks_in e in
    let b : held_in new.slots ≡ held_by v + held_in old.slots = ap held_in e in
    let s : stacks_lent new.callers ≡ stacks_lent old.callers = ap stacks_lent c in
    let t : values_lent new.callers ≡ values_lent old.callers = ap values_lent c in
    let p = stacks-total (Slot x v old.slots) in
    let q = stacks-total old.slots in
    let hs = h.stacks in
    let hv = h.values in
    record { stacks = omega (arith, hs, a, s, p, q, n); values = omega (arith, hv, b, t, z) }

-- one name fewer
pub counted-fewer : (spare more values : ℕ) (old new : FramesState) (x : Name) (v : Val) → old.slots ≡ Slot x v new.slots
    → new.callers ≡ old.callers → more ≡ spare + one_stack v → held_by v ≡ 0 → AreCounted spare values old → AreCounted more values new
counted-fewer spare more values old new x v e c n z h =
    let a : stacks_in old.slots ≡ stacks_in (Slot x v new.slots) = ap stacks_in e in
    let b : held_in old.slots ≡ held_by v + held_in new.slots = ap held_in e in
    let s : stacks_lent new.callers ≡ stacks_lent old.callers = ap stacks_lent c in
    let t : values_lent new.callers ≡ values_lent old.callers = ap values_lent c in
    let p = stacks-total (Slot x v new.slots) in
    let q = stacks-total new.slots in
    let hs = h.stacks in
    let hv = h.values in
    record { stacks = omega (arith, hs, a, s, p, q, n); values = omega (arith, hv, b, t, z) }

-- as many stacks and values
pub counted-same : (spare values : ℕ) (old new : FramesState) → stacks_there new ≡ stacks_there old → values_there new ≡ values_there old
    → AreCounted spare values old → AreCounted spare values new
counted-same spare values old new a b h = let hs = h.stacks in let hv = h.values in record { stacks = omega (arith, hs, a); values = omega (arith, hv, b) }

pub counted-entered : (spare values : ℕ) (old new : FramesState) (xs : List Name) → CanLend xs old.slots
    → Enters xs old.slots old.callers new.slots new.callers → AreCounted spare values old → AreCounted spare values new
counted-entered spare values old new xs can e h =
    let a = entered-total one_stack refl xs old.slots new.slots old.callers new.callers can e in
    let b = entered-total held_by refl xs old.slots new.slots old.callers new.callers can e in
    let s = stacks-all old in
    let t = stacks-all new in
    let x = values-all old in
    let y = values-all new in
    counted-same spare values old new (omega (arith, a, s, t)) (omega (arith, b, x, y)) h

pub counted-left : (spare values : ℕ) (old new : FramesState) (c : Caller) (cs : List Caller) (vs : List Val) → old.callers ≡ c ∷ cs
    → unbind (parameters (length c.args)) old.slots ≡ Fine vs → Returns (c ∷ cs) old.slots new.slots new.callers → AreCounted spare values old →
    AreCounted spare values new
counted-left spare values old new c cs vs e u r h =
    let a = left-total one_stack refl c cs new.callers old.slots new.slots vs u r in
    let b = left-total held_by refl c cs new.callers old.slots new.slots vs u r in
    let i = ap (lent_total one_stack) e in
    let j = ap (lent_total held_by) e in
    let s = stacks-all old in
    let t = stacks-all new in
    let x = values-all old in
    let y = values-all new in
    counted-same spare values old new (omega (arith, a, s, t, i)) (omega (arith, b, x, y, j)) h
