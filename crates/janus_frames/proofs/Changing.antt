-- A name in sight of frames has another number, another element, or one value more or fewer on its stack.
use Rattle.std.proofs.Common.{◌≡◌, ◌≢◌, ℕ, ℤ, ◌+◌, ◌-◌, ◌<◌, List, [], ◌∷◌, length, refl, ap, ◌∙◌, sym, subst, arith, pos, zero, suc, negsuc}
use Rattle.std.proofs.Common.{get_or-set_same, get_or-set_other, length-set}
use Rattle.janus_meaning.specs.Fault.{Fine}
use Rattle.janus_meaning.specs.Store.{Val, Num, look, cleared_val, zeros, set_element, set_nth, held_by}
use Rattle.janus_slots.specs.Slots.{slot}
use Rattle.janus_memory.specs.Memory.{MemoryState, Content, Plain, val_of, val_at, content_at, number_at, values_among, value_count}
use Rattle.janus_memory.specs.Memory.{with_number, with_content, with_write}
use Rattle.janus_memory.proofs.Amounts.{amount-set}
use Rattle.janus_frames.specs.Cells.{IsPresent}
use Rattle.janus_frames.specs.FramesState.{HasShape}
use Rattle.janus_frames.specs.Inside.{AreIn, frames_in}
use Rattle.janus_frames.specs.Stores.{write}
use Rattle.janus_frames.specs.declared.frames.OpenCall.{OpenCall}
use Rattle.janus_frames.proofs.Counted.{changed-counted}
use Rattle.janus_frames.proofs.Holding.{changed, changed-written, changed-callers, changed-shape}
use Rattle.janus_frames.proofs.Totals.{one_stack}
use Rattle.janus_frames.proofs.Sight.{name-low, name-value, name-place}

-- ---- another value at one place

-- the k-th name, which has the value u, has v then
pub record IsChanged (m n : MemoryState) (k : ℕ) (u v : Val) : Type 0 where
  pub long : length n.numbers ≡ length m.numbers
  pub others : (q : ℕ) → q ≢ m.base + k → val_at n q ≡ val_at m q
  pub plain : (q : ℕ) → q ≢ m.base + k → content_at n q ≡ content_at m q
  pub here : val_at n (m.base + k) ≡ v
  pub present : IsPresent v
  pub stacks : one_stack v ≡ one_stack u
  pub values : values_among n.contents + held_by u ≡ values_among m.contents + held_by v
  pub clear : cleared_val v ≡ cleared_val u

module _ (m : MemoryState) (top : ℕ) (calls : List OpenCall) (i : AreIn m top calls) (ns : List ℤ) (xs : List Content) (w k : ℕ) (u v : Val)
    (e : look (slot k) (frames_in m top calls).slots ≡ Fine u) (c : IsChanged m (record m { numbers = ns; contents = xs; writes = w }) k u v) where
  abbrev new : MemoryState
  new = record m { numbers = ns; contents = xs; writes = w }

  low : k < top - m.base
  low = name-low m top calls i k u e

  other : (q : ℕ) → q < top → q ≢ m.base + k → val_at new q ≡ val_at m q
  other q l d = c.others q d

  there : IsPresent (val_at new (m.base + k))
  there = subst IsPresent (sym c.here) c.present

  was : val_at m (m.base + k) ≡ u
  was = name-value m top calls i k u e

  pub changed-in : AreIn (record m { numbers = ns; contents = xs; writes = w }) top calls
  changed-in = record {
    frames = changed (val_at m) (val_at new) m.base top k calls i.frames low other there;
    counted = changed-counted (val_at m) (val_at new) m.base top k calls i.frames low other there m.spare (values_among m.contents) (values_among xs) m.room m.results
        m.writes w i.counted (ap one_stack c.here ∙ c.stacks ∙ sym (ap one_stack was))
        (let x = ap held_by c.here in let y = ap held_by was in let z = c.values in omega (arith, x, y, z));
    above = λ p l. c.plain p (let o = name-place m top calls i k u e in omega (arith, l, o)) ∙ i.above p l;
    long = let a = c.long in let o = i.long in omega (arith, a, o);
  }

  pub written-in : write (slot k) v (frames_in m top calls).slots ≡ Fine (frames_in (record m { numbers = ns; contents = xs; writes = w }) top calls).slots
  written-in =
      ap (λ v. write (slot k) v (frames_in m top calls).slots) (sym c.here)
      ∙ changed-written (val_at m) (val_at new) m.base top k calls i.frames low other there

  pub shape-in : HasShape (frames_in m top calls) (frames_in (record m { numbers = ns; contents = xs; writes = w }) top calls)
  shape-in = record {
    slots = changed-shape (val_at m) (val_at new) m.base top k calls i.frames low other there (ap cleared_val c.here ∙ c.clear ∙ sym (ap cleared_val was));
    callers = changed-callers (val_at m) (val_at new) m.base top k calls i.frames low other there;
    room = refl;
  }

-- ---- the two ways

module _ (m : MemoryState) (k : ℕ) where
  -- another number of a cell that has nothing beside it
  pub number-changed : (x y : ℤ) → m.base + k < length m.numbers → content_at m (m.base + k) ≡ Plain
      → IsChanged m (with_write (with_number m (m.base + k) y)) k (Num x) (Num y)
  number-changed x y l e =
      let p = m.base + k in
      record {
        long = length-set m.numbers p y;
        others = λ q d. ap (λ n. val_of n (content_at m q)) (get_or-set_other m.numbers p q y (pos 0) d);
        plain = λ q d. refl;
        here = ap (λ n. val_of n (content_at m p)) (get_or-set_same m.numbers p y (pos 0) l) ∙ ap (val_of y) e;
        present = tt;
        stacks = refl;
        values = refl;
        clear = refl;
      }

  -- another array or stack
  pub content-changed : (x y : Content) → length m.contents ≡ length m.numbers → m.base + k < length m.numbers → content_at m (m.base + k) ≡ x
      → IsPresent (val_of (number_at m (m.base + k)) y)
      → one_stack (val_of (number_at m (m.base + k)) y) ≡ one_stack (val_of (number_at m (m.base + k)) x)
      → held_by (val_of (number_at m (m.base + k)) x) ≡ value_count x → held_by (val_of (number_at m (m.base + k)) y) ≡ value_count y
      → cleared_val (val_of (number_at m (m.base + k)) y) ≡ cleared_val (val_of (number_at m (m.base + k)) x)
      → IsChanged m (with_write (with_content m (m.base + k) y)) k (val_of (number_at m (m.base + k)) x) (val_of (number_at m (m.base + k)) y)
  content-changed x y wide l e pr s f g c =
      let p = m.base + k in
      let low : p < length m.contents = omega (arith, wide, l) in
      let sum = amount-set value_count Plain m.contents p y low in
      record {
        long = refl;
        others = λ q d. ap (val_of (number_at m q)) (get_or-set_other m.contents p q y Plain d);
        plain = λ q d. get_or-set_other m.contents p q y Plain d;
        here = ap (val_of (number_at m p)) (get_or-set_same m.contents p y Plain low);
        present = pr;
        stacks = s;
        values = let z = ap value_count e in omega (arith, sum, f, g, z);
        clear = c;
      }

-- ---- elements

zeros_nth : (l : List ℤ) (n : ℕ) (v : ℤ) → zeros (length (set_nth l n v)) ≡ zeros (length l)
zeros_nth [] n v = refl
zeros_nth (x ∷ l) zero v = refl
zeros_nth (x ∷ l) (suc n) v = ap (λ l. pos 0 ∷ l) (zeros_nth l n v)

pub zeros-set : (l : List ℤ) (n v : ℤ) → zeros (length (set_element l n v)) ≡ zeros (length l)
zeros-set l (pos n) v = zeros_nth l n v
zeros-set l (negsuc n) v = refl
