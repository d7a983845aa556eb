-- A name more in sight of frames, and one fewer.
use Rattle.std.proofs.Common.{◌≡◌, ℕ, ℤ, suc, ◌+◌, ◌-◌, ◌<◌, ◌≤◌, List, [], ◌∷◌, ◌++◌, length, length-append, replicate, set, get_or, pos, refl, ap, ◌∙◌, sym}
use Rattle.std.proofs.Common.{subst}
use Rattle.std.proofs.Common.{arith, get_or-set_same, get_or-set_other, length-set, zero}
use Rattle.std.proofs.lemmas.List.{set-get_or}
use Rattle.janus_meaning.specs.Syntax.{Name}
use Rattle.janus_meaning.specs.Store.{Val, Num, Arr, Stk, Lent, Store, Slot, cleared_val, held_by}
use Rattle.janus_meaning.specs.World.{size_of}
use Rattle.janus_slots.specs.Slots.{slot}
use Rattle.janus_memory.specs.Memory.{MemoryState, Content, Plain, HasArray, HasStack, Gone, val_of, val_at, content_at, number_at, stack_of, values_among}
use Rattle.janus_memory.specs.Memory.{value_count}
use Rattle.janus_memory.specs.Memory.{reached, with_number, opened, opened_from, released, released_from}
use Rattle.janus_memory.proofs.Amounts.{amount-set, amount-none}
use Rattle.janus_frames.specs.Cells.{stored, IsPresent, from}
use Rattle.janus_frames.specs.Calls.{Caller, own_names, slots_of}
use Rattle.janus_frames.specs.FramesState.{FramesState, with_names}
use Rattle.janus_frames.specs.Inside.{AreIn, frames_in, AreCounted, callers_of}
use Rattle.janus_frames.specs.declared.frames.OpenCall.{OpenCall}
use Rattle.janus_frames.proofs.Calling.{as-many}
use Rattle.janus_frames.proofs.Counted.{counted-more, counted-fewer}
use Rattle.janus_frames.proofs.Holding.{opened as opened-frames, opened-callers, opened-slots, closed, closed-callers, closed-slots, IsEnough, callers-same}
use Rattle.janus_frames.proofs.Holding.{nested-same, enough}
use Rattle.janus_frames.proofs.Sight.{in-sight}
use Rattle.janus_frames.proofs.Stored.{stored-same}
use Rattle.janus_frames.proofs.Totals.{one_stack}

pub same-frames : (s t : Store) (cs ds : List Caller) (n r w : ℕ) → s ≡ t → cs ≡ ds
    → ◌≡◌ {A = FramesState} (record { slots = s; callers = cs; room = n; results = r; writes = w })
    (record { slots = t; callers = ds; room = n; results = r; writes = w })
same-frames s t cs ds n r w e f =
    ap (λ s. record { slots = s; callers = cs; room = n; results = r; writes = w }) e
    ∙ ap (λ cs. record { slots = t; callers = cs; room = n; results = r; writes = w }) f

-- ---- a name more

-- behind the last place stands one more, which has the value u
pub record IsOpened (m n : MemoryState) (top : ℕ) (u : Val) : Type 0 where
  pub same : (q : ℕ) → q < top → val_at n q ≡ val_at m q
  pub here : val_at n top ≡ u
  pub present : IsPresent u
  pub above : (q : ℕ) → top + 1 ≤ q → content_at n q ≡ Plain
  pub long : top + 1 ≤ length n.numbers
  pub stacks : n.spare + one_stack u ≡ m.spare
  pub values : values_among n.contents ≡ values_among m.contents
  pub none : held_by u ≡ 0

module _ (m : MemoryState) (top : ℕ) (calls : List OpenCall) (i : AreIn m top calls) (ns : List ℤ) (xs : List Content) (s : ℕ) (u : Val)
    (c : IsOpened m (record m { numbers = ns; contents = xs; spare = s }) top u) where
  abbrev new : MemoryState
  new = record m { numbers = ns; contents = xs; spare = s }

  there : IsPresent (val_at new top)
  there = subst IsPresent (sym c.here) c.present

  o_callers : callers_of (val_at new) m.base calls ≡ (frames_in m top calls).callers
  o_callers = opened-callers (val_at m) (val_at new) m.base top calls i.frames c.same there

  o_slots : stored (from (val_at new) m.base) (top + 1 - m.base) ≡ Slot (slot (size_of (frames_in m top calls).slots)) u (frames_in m top calls).slots
  o_slots =
      opened-slots (val_at m) (val_at new) m.base top calls i.frames c.same there
      ∙ ap (λ u. Slot (slot (size_of (frames_in m top calls).slots)) u (frames_in m top calls).slots) c.here

  pub more-state : frames_in (record m { numbers = ns; contents = xs; spare = s }) (top + 1) calls
      ≡ with_names (Slot (slot (size_of (frames_in m top calls).slots)) u (frames_in m top calls).slots) (frames_in m top calls)
  more-state = same-frames (stored (from (val_at new) m.base) (top + 1 - m.base))
      (Slot (slot (size_of (frames_in m top calls).slots)) u (frames_in m top calls).slots) (callers_of (val_at new) m.base calls)
      (frames_in m top calls).callers m.room m.results m.writes o_slots o_callers

  pub more-in : AreIn (record m { numbers = ns; contents = xs; spare = s }) (top + 1) calls
  more-in = record {
    frames = opened-frames (val_at m) (val_at new) m.base top calls i.frames c.same there;
    counted = subst (λ n. AreCounted s n (frames_in new (top + 1) calls)) (sym c.values)
        (counted-more m.spare s (values_among m.contents) (frames_in m top calls) (frames_in new (top + 1) calls)
        (slot (size_of (frames_in m top calls).slots)) u o_slots o_callers c.stacks c.none i.counted);
    above = c.above;
    long = c.long;
  }

-- ---- after more cells were reached

more_numbers : (ns : List ℤ) (k q : ℕ) → get_or (ns ++ replicate k (pos 0)) q (pos 0) ≡ get_or ns q (pos 0)
more_numbers [] zero q = refl
more_numbers [] (suc k) zero = refl
more_numbers [] (suc k) (suc q) = more_numbers [] k q
more_numbers (n ∷ ns) k zero = refl
more_numbers (n ∷ ns) k (suc q) = more_numbers ns k q

more_contents : (xs : List Content) (k q : ℕ) → get_or (xs ++ replicate k Plain) q Plain ≡ get_or xs q Plain
more_contents [] zero q = refl
more_contents [] (suc k) zero = refl
more_contents [] (suc k) (suc q) = more_contents [] k q
more_contents (x ∷ xs) k zero = refl
more_contents (x ∷ xs) k (suc q) = more_contents xs k q

as_many : {A : Type 0} (x : A) (k : ℕ) → length (replicate k x) ≡ k
as_many x zero = refl
as_many x (suc k) = ap suc (as_many x k)

module _ (m : MemoryState) (n : ℕ) where
  pub reach-content : (q : ℕ) → content_at (reached m n) q ≡ content_at m q
  reach-content q = more_contents m.contents (n - length m.contents) q

  pub reach-value : (q : ℕ) → val_at (reached m n) q ≡ val_at m q
  reach-value q =
      ap (λ k. val_of k (content_at (reached m n) q)) (more_numbers m.numbers (n - length m.numbers) q) ∙ ap (val_of (number_at m q)) (reach-content q)

  pub reach-values : values_among (reached m n).contents ≡ values_among m.contents
  reach-values = amount-none value_count m.contents (n - length m.contents) Plain refl

  pub reach-long : n ≤ length (reached m n).numbers
  reach-long = omega (arith, length-append m.numbers (replicate (n - length m.numbers) (pos 0)), as_many (pos 0) (n - length m.numbers))

  pub reach-more : length m.numbers ≤ length (reached m n).numbers
  reach-more = omega (arith, length-append m.numbers (replicate (n - length m.numbers) (pos 0)))

-- a name with a number, an empty stack or an array
module _ (m : MemoryState) (top : ℕ) (calls : List OpenCall) (i : AreIn m top calls)
    (wide : length (reached m (top + 1)).contents ≡ length (reached m (top + 1)).numbers) where
  abbrev r : MemoryState
  r = reached m (top + 1)

  plain : content_at r top ≡ Plain
  plain = reach-content m (top + 1) top ∙ i.above top (omega arith)

  low : top < length r.numbers
  low = let l = reach-long m (top + 1) in omega (arith, l)

  pub number-opened : (x : ℤ) → IsOpened m (with_number (reached m (top + 1)) top x) top (Num x)
  number-opened x = record {
    same = λ q l. ap (λ n. val_of n (content_at r q)) (get_or-set_other r.numbers top q x (pos 0) (λ e. omega (arith, e, l))) ∙ reach-value m (top + 1) q;
    here = ap (λ n. val_of n (content_at r top)) (get_or-set_same r.numbers top x (pos 0) low) ∙ ap (val_of x) plain;
    present = tt;
    above = λ q l. reach-content m (top + 1) q ∙ i.above q (omega (arith, l));
    long = let l = reach-long m (top + 1) in omega (arith, l, length-set r.numbers top x);
    stacks = omega arith;
    values = reach-values m (top + 1);
    none = refl;
  }

  module _ (x : Content) (u : Val) (e : val_of (number_at r top) x ≡ u) (p : IsPresent u) (z : held_by u ≡ 0) (y : value_count x ≡ 0) (s : ℕ)
      (t : s + one_stack u ≡ m.spare) where
    pub content-opened : IsOpened m (record (reached m (top + 1)) { contents = set (reached m (top + 1)).contents top x; spare = s }) top u
    content-opened = record {
      same = λ q l. ap (val_of (number_at r q)) (get_or-set_other r.contents top q x Plain (λ e. omega (arith, e, l))) ∙ reach-value m (top + 1) q;
      here = ap (val_of (number_at r top)) (get_or-set_same r.contents top x Plain (omega (arith, low, wide))) ∙ e;
      present = p;
      above = λ q l. get_or-set_other r.contents top q x Plain (λ e. omega (arith, e, l)) ∙ reach-content m (top + 1) q ∙ i.above q (omega (arith, l));
      long = reach-long m (top + 1);
      stacks = t;
      values = let a = amount-set value_count Plain r.contents top x (omega (arith, low, wide)) in
          let b = ap value_count plain in let c = reach-values m (top + 1) in omega (arith, a, b, c, y);
      none = z;
    }

  pub stack-opened : opened (reached m (top + 1)) top
      ≡ record (reached m (top + 1)) { contents = set (reached m (top + 1)).contents top (HasStack []); spare = m.spare - 1 }
  stack-opened = ap (λ x. opened_from x r top) plain

-- where nothing but cells that are reached is new
module _ (m : MemoryState) (top n : ℕ) (calls : List OpenCall) (i : AreIn m top calls) where
  pub reach-state : frames_in (reached m n) top calls ≡ frames_in m top calls
  reach-state = same-frames (stored (from (val_at (reached m n)) m.base) (top - m.base)) (stored (from (val_at m) m.base) (top - m.base))
      (callers_of (val_at (reached m n)) m.base calls) (callers_of (val_at m) m.base calls) m.room m.results m.writes
      (stored-same (from (val_at (reached m n)) m.base) (from (val_at m) m.base) (top - m.base) (λ k l. reach-value m n (m.base + k)))
      (sym (callers-same (val_at m) (val_at (reached m n)) m.base (top - m.base) calls i.frames.nested (λ q l. sym (reach-value m n q))))

  pub reach-in : AreIn (reached m n) top calls
  reach-in = record {
    frames = record {
      order = i.frames.order;
      present = λ k l. subst IsPresent (sym (reach-value m n (m.base + k))) (i.frames.present k l);
      nested = nested-same (val_at m) (val_at (reached m n)) m.base (top - m.base) (top - m.base) calls i.frames.nested
          (enough (val_at m) m.base (top - m.base) (top - m.base) calls (omega arith) i.frames.nested) (λ q l. sym (reach-value m n q));
    };
    counted = subst (AreCounted m.spare (values_among (reached m n).contents)) (sym reach-state)
        (record { stacks = i.counted.stacks; values = reach-values m n ∙ i.counted.values });
    above = λ p l. reach-content m n p ∙ i.above p l;
    long = let a = i.long in let b = reach-more m n in omega (arith, a, b);
  }

-- ---- one fewer

enough_own : (v : ℕ → Val) (b n : ℕ) (cs : List OpenCall) → own_names 0 (callers_of v b cs) < n → IsEnough (n - 1) cs
enough_own v b n [] h = tt
enough_own v b n (c ∷ cs) h = let m = as-many (slots_of c.args) in omega (arith, h, m)

-- the last cell is plain then, and what it had is let go
pub record IsClosed (m n : MemoryState) (top : ℕ) : Type 0 where
  pub same : (q : ℕ) → q < top - 1 → val_at n q ≡ val_at m q
  pub above : (q : ℕ) → top - 1 ≤ q → content_at n q ≡ Plain
  pub stacks : n.spare ≡ m.spare + one_stack (val_at m (top - 1))
  pub values : values_among n.contents ≡ values_among m.contents
  pub none : held_by (val_at m (top - 1)) ≡ 0

module _ (m : MemoryState) (top : ℕ) (calls : List OpenCall) (i : AreIn m top calls)
    (own : own_names 0 (frames_in m top calls).callers < size_of (frames_in m top calls).slots) where
  pub last-there : m.base < top
  last-there = let n = in-sight m top calls i in omega (arith, own, n)

  c_enough : IsEnough (top - 1 - m.base) calls
  c_enough =
      let n = in-sight m top calls i in
      let z : top - m.base - 1 ≡ top - 1 - m.base = omega arith in
      subst (λ n. IsEnough n calls) z
      (enough_own (val_at m) m.base (top - m.base) calls (subst (λ n. own_names 0 (frames_in m top calls).callers < n) n own))

  -- the newest name has this value
  pub newest-value : (x : Name) (u : Val) (s : Store) → (frames_in m top calls).slots ≡ Slot x u s → val_at m (top - 1) ≡ u
  newest-value x u s e =
      let f = closed-slots (val_at m) (val_at m) m.base top calls i.frames last-there c_enough (λ q l. refl) in
      slot_value (slot (top - 1 - m.base)) x (val_at m (top - 1)) u (stored (from (val_at m) m.base) (top - 1 - m.base)) s (sym f ∙ e)
    where
      slot_value : (x y : Name) (u v : Val) (s t : Store) → Slot x u s ≡ Slot y v t → u ≡ v
      slot_value x y u v s t e = cc

  module _ (xs : List Content) (s : ℕ) (c : IsClosed m (record m { contents = xs; spare = s }) top) where
    abbrev less : MemoryState
    less = record m { contents = xs; spare = s }

    c_callers : callers_of (val_at less) m.base calls ≡ (frames_in m top calls).callers
    c_callers = closed-callers (val_at m) (val_at less) m.base top calls i.frames last-there c_enough c.same

    pub fewer-slots : (frames_in m top calls).slots
        ≡ Slot (slot (top - 1 - m.base)) (val_at m (top - 1)) (frames_in (record m { contents = xs; spare = s }) (top - 1) calls).slots
    fewer-slots = closed-slots (val_at m) (val_at less) m.base top calls i.frames last-there c_enough c.same

    pub fewer-state : (t : Store) → (frames_in (record m { contents = xs; spare = s }) (top - 1) calls).slots ≡ t
        → frames_in (record m { contents = xs; spare = s }) (top - 1) calls ≡ with_names t (frames_in m top calls)
    fewer-state t e = same-frames (frames_in less (top - 1) calls).slots t (callers_of (val_at less) m.base calls) (frames_in m top calls).callers m.room
        m.results m.writes e c_callers

    pub fewer-in : AreIn (record m { contents = xs; spare = s }) (top - 1) calls
    fewer-in = record {
      frames = closed (val_at m) (val_at less) m.base top calls i.frames last-there c_enough c.same;
      counted = subst (λ n. AreCounted s n (frames_in less (top - 1) calls)) (sym c.values)
          (counted-fewer m.spare s (values_among m.contents) (frames_in m top calls) (frames_in less (top - 1) calls) (slot (top - 1 - m.base))
          (val_at m (top - 1)) fewer-slots c_callers c.stacks c.none i.counted);
      above = c.above;
      long = let l = i.long in omega (arith, l);
    }

-- what stands behind the newest name
pub slot-rest : (x y : Name) (u v : Val) (s t : Store) → Slot x u s ≡ Slot y v t → s ≡ t
slot-rest x y u v s t e = cc

-- ---- a value as it was declared

pub none-held : (v : Val) → cleared_val v ≡ v → held_by v ≡ 0
none-held (Num n) e = refl
none-held (Arr l) e = refl
none-held (Stk []) e = refl
none-held (Stk (x ∷ l)) e = absurd cc
none-held Lent e = refl

pub none-on : (n : ℤ) (c : Content) → cleared_val (val_of n c) ≡ val_of n c → stack_of c ≡ []
none-on n Plain e = refl
none-on n (HasArray l) e = refl
none-on n (HasStack []) e = refl
none-on n (HasStack (x ∷ l)) e = absurd cc
none-on n Gone e = refl

-- what is let go of a cell that is not lent
released_by : (m : MemoryState) (p : ℕ) (c : Content) → content_at m p ≡ c → IsPresent (val_of (number_at m p) c)
    → released_from c m p ≡ record m { contents = set m.contents p Plain; spare = m.spare + one_stack (val_of (number_at m p) c) }
released_by m p Plain e h =
    let f : set m.contents p Plain ≡ m.contents = ap (set m.contents p) (sym e) ∙ set-get_or m.contents p Plain in
    ap (λ xs. record m { contents = xs }) (sym f)
    ∙ ap (λ n. record m { contents = set m.contents p Plain; spare = n }) (omega arith)
released_by m p (HasArray l) e h = ap (λ n. record m { contents = set m.contents p Plain; spare = n }) (omega arith)
released_by m p (HasStack l) e h = refl
released_by m p Gone e h = absurd h

pub released-is : (m : MemoryState) (p : ℕ) → IsPresent (val_at m p)
    → released m p ≡ record m { contents = set m.contents p Plain; spare = m.spare + one_stack (val_at m p) }
released-is m p h = released_by m p (content_at m p) refl h

no_values : (n : ℤ) (c : Content) → IsPresent (val_of n c) → value_count c ≡ held_by (val_of n c)
no_values n Plain p = refl
no_values n (HasArray l) p = refl
no_values n (HasStack l) p = refl
no_values n Gone p = absurd p

-- a place is another one or behind it
data Order (q t : ℕ) : Type 0 where
  Same : (e : q ≡ t) → Order q t
  More : (l : t < q) → Order q t

order : (q t : ℕ) → t ≤ q → Order q t
order zero zero h = Same refl
order (suc q) zero h = More (omega arith)
order zero (suc t) h = absurd (omega arith)
order (suc q) (suc t) h = later (order q t (omega arith))
  where
    later : Order q t → Order (suc q) (suc t)
    later (Same e) = Same (ap suc e)
    later (More l) = More (omega arith)

pub release-closed : (m : MemoryState) (top : ℕ) (calls : List OpenCall) → AreIn m top calls → length m.contents ≡ length m.numbers → 0 < top
    → IsPresent (val_at m (top - 1)) → held_by (val_at m (top - 1)) ≡ 0
    → IsClosed m (record m { contents = set m.contents (top - 1) Plain; spare = m.spare + one_stack (val_at m (top - 1)) }) top
release-closed m top calls i wide l p z =
    let long = i.long in
    let low : top - 1 < length m.contents = omega (arith, wide, long, l) in
    record {
      same = λ q h. ap (val_of (number_at m q)) (get_or-set_other m.contents (top - 1) q Plain Plain (λ e. omega (arith, e, h)));
      above = λ q h. by q (order q (top - 1) h) low;
      stacks = refl;
      values = let a = amount-set value_count Plain m.contents (top - 1) Plain low in
          let b = no_values (number_at m (top - 1)) (content_at m (top - 1)) p in omega (arith, a, b, z);
      none = z;
    }
  where
    by : (q : ℕ) → Order q (top - 1) → top - 1 < length m.contents → get_or (set m.contents (top - 1) Plain) q Plain ≡ Plain
    by q (Same e) low = ap (λ q. get_or (set m.contents (top - 1) Plain) q Plain) e ∙ get_or-set_same m.contents (top - 1) Plain Plain low
    by q (More g) low = get_or-set_other m.contents (top - 1) q Plain Plain (λ e. omega (arith, e, g)) ∙ i.above q (omega (arith, g, l))
