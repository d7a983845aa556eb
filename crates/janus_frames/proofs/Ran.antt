-- Frames as a row sees them, and what stands in them when it was run.
use Rattle.std.proofs.Common.{◌≡◌, ℕ, ℤ, zero, suc, ◌+◌, ◌-◌, ◌<◌, ◌≤◌, Bool, true, false, nat_eq, List, [], ◌∷◌, length, get_or, pos}
use Rattle.std.proofs.Common.{refl, ap, ◌∙◌, sym, subst, arith}
use Rattle.std.specs.Prelude.{take, drop}
use Rattle.std.proofs.lemmas.List.{get_or-take, get_or-drop, length-drop, length-take-le}
use Rattle.janus_meaning.specs.Limit.{live_stack_limit}
use Rattle.janus_meaning.specs.Store.{Val, Num, Arr, Stk, Lent, Store, Bare, Slot, total, held_by, held_in}
use Rattle.janus_meaning.specs.World.{size_of, stacks_in}
use Rattle.janus_slots.specs.Slots.{slot}
use Rattle.janus_memory.specs.Memory.{MemoryState, Content, Plain, HasArray, HasStack, Gone, val_of, val_at, content_at, number_at, amount}
use Rattle.janus_memory.specs.Memory.{stack_count, value_count, stacks_among, values_among}
use Rattle.janus_row.specs.Seen.{Others, cell, content}
use Rattle.janus_row.specs.Frames.{IsVal, Holds, IsSeen}
use Rattle.janus_row.specs.Over.{cells_of, others_of, front_of}
use Rattle.janus_row.proofs.Memories.{number_is, content_is}
use Rattle.janus_frames.specs.Calls.{slots_of, own_names, stacks_lent, values_lent}
use Rattle.janus_frames.specs.Cells.{stored, from, IsPresent}
use Rattle.janus_frames.specs.FramesState.{stacks_there, values_there}
use Rattle.janus_frames.specs.Inside.{AreIn, callers_of, frames_in}
use Rattle.janus_frames.specs.declared.frames.OpenCall.{OpenCall}
use Rattle.janus_frames.proofs.Among.{equal, not-equal}
use Rattle.janus_frames.proofs.Calling.{as-many}
use Rattle.janus_frames.proofs.Holding.{IsEnough}
use Rattle.janus_frames.proofs.Reading.{size-stored}
use Rattle.janus_frames.proofs.Running.{ran-in, ran-callers, ran-slots}
use Rattle.janus_frames.proofs.Totals.{one_stack, stacks-total}

-- ---- what is counted in front of a place and behind it

amount-parts : {A : Type 0} (f : A → ℕ) (b : ℕ) (l : List A) → amount f (take b l) + amount f (drop b l) ≡ amount f l
amount-parts f zero l = omega arith
amount-parts f (suc b) [] = refl
amount-parts f (suc b) (x ∷ l) = let i = amount-parts f b l in omega (arith, i)

long-take : {A : Type 0} (b : ℕ) (l : List A) → length (take b l) ≤ length l
long-take zero l = omega arith
long-take (suc b) [] = omega arith
long-take (suc b) (x ∷ l) = let i = long-take b l in omega (arith, i)

module _ (f : Content → ℕ) (plain : f Plain ≡ 0) where
  amount-plain : (l : List Content) → ((k : ℕ) → get_or l k Plain ≡ Plain) → amount f l ≡ 0
  amount-plain [] h = refl
  amount-plain (x ∷ l) h = let i = amount-plain l (λ k. h (suc k)) in let e = ap f (h 0) in omega (arith, i, e, plain)

  amount-more : (l : List Content) (u : ℕ) → amount f (take (suc u) l) ≡ amount f (take u l) + f (get_or l u Plain)
  amount-more [] zero = omega (arith, plain)
  amount-more [] (suc u) = omega (arith, plain)
  amount-more (x ∷ l) zero = omega arith
  amount-more (x ∷ l) (suc u) = let i = amount-more l u in omega (arith, i)

  module _ (count : Val → ℕ) (l : List Content) (v : ℕ → Val) where
    amount-first : (u : ℕ) → ((k : ℕ) → k < u → f (get_or l k Plain) ≡ count (v k)) → amount f (take u l) ≡ total count (stored v u)
    amount-first zero h = refl
    amount-first (suc u) h =
        let i = amount-first u (λ k lt. h k (omega (arith, lt))) in
        let e = h u (omega arith) in
        let m = amount-more l u in
        omega (arith, i, e, m)

    amount-stored : (u : ℕ) → ((k : ℕ) → k < u → f (get_or l k Plain) ≡ count (v k)) → ((k : ℕ) → u ≤ k → get_or l k Plain ≡ Plain)
        → amount f l ≡ total count (stored v u)
    amount-stored u h g =
        let p = amount-parts f u l in
        let i = amount-first u h in
        let z = amount-plain (drop u l) (λ k. get_or-drop u l k Plain ∙ g (u + k) (omega arith)) in
        omega (arith, p, i, z)

-- a cell counts as its value does
stacks-as : (n : ℤ) (c : Content) → stack_count c ≡ one_stack (val_of n c)
stacks-as n Plain = refl
stacks-as n (HasArray l) = refl
stacks-as n (HasStack l) = refl
stacks-as n Gone = refl

values-as : (n : ℤ) (c : Content) → value_count c ≡ held_by (val_of n c)
values-as n Plain = refl
values-as n (HasArray l) = refl
values-as n (HasStack l) = refl
values-as n Gone = refl

-- u names stand from the base on, and behind them plain cells
module _ (m : MemoryState) (u : ℕ) (above : (p : ℕ) → m.base + u ≤ p → content_at m p ≡ Plain) where
  among : (f : Content → ℕ) (count : Val → ℕ) → f Plain ≡ 0 → ((n : ℤ) (c : Content) → f c ≡ count (val_of n c))
      → amount f m.contents ≡ amount f (take m.base m.contents) + total count (stored (from (val_at m) m.base) u)
  among f count plain alike =
      let p = amount-parts f m.base m.contents in
      let i = amount-stored f plain count (drop m.base m.contents) (from (val_at m) m.base) u
      (λ k lt. ap f (get_or-drop m.base m.contents k Plain) ∙ alike (number_at m (m.base + k)) (content_at m (m.base + k)))
      (λ k le. get_or-drop m.base m.contents k Plain ∙ above (m.base + k) (omega (arith, le))) in
      omega (arith, p, i)

  pub stacks-parts : stacks_among m.contents ≡ stacks_among (take m.base m.contents) + stacks_in (stored (from (val_at m) m.base) u)
  stacks-parts =
      let a = among stack_count one_stack refl stacks-as in
      let t = stacks-total (stored (from (val_at m) m.base) u) in
      omega (arith, a, t)

  pub values-parts : values_among m.contents ≡ values_among (take m.base m.contents) + held_in (stored (from (val_at m) m.base) u)
  values-parts = among value_count held_by refl values-as

-- ---- as a row sees them

module _ (m : MemoryState) where
  abbrev cs : List ℤ
  cs = cells_of m

  abbrev os : Others
  os = others_of m

  val-there : (k : ℕ) (n : ℤ) (c : Content) → content os k ≡ c → cell cs k ≡ n → IsPresent (val_of n c) → IsVal (val_of n c) cs os k
  val-there k n Plain e g p = (e, g)
  val-there k n (HasArray l) e g p = e
  val-there k n (HasStack l) e g p = e
  val-there k n Gone e g p = absurd p

  holds-stored : (u : ℕ) → ((k : ℕ) → k < u → IsPresent (val_at m (m.base + k))) → Holds cs os (stored (from (val_at m) m.base) u)
  holds-stored zero h = tt
  holds-stored (suc u) h =
      let s = size-stored (from (val_at m) m.base) u in (
        ap slot (sym s),
        subst (IsVal (val_at m (m.base + u)) cs os) (sym s)
            (val-there u (number_at m (m.base + u)) (content_at m (m.base + u)) (content_is 0 m u) (number_is 0 m u) (h u (omega arith))),
        holds-stored u (λ k lt. h k (omega (arith, lt))),
      )

  val-is : (v : Val) (k : ℕ) → IsVal v cs os k → v ≡ val_of (cell cs k) (content os k)
  val-is (Num n) k h = ap Num (sym h.1) ∙ ap (val_of (cell cs k)) (sym h.0)
  val-is (Arr l) k h = ap (val_of (cell cs k)) (sym h)
  val-is (Stk l) k h = ap (val_of (cell cs k)) (sym h)
  val-is Lent k h = absurd h

  val-here : (v : Val) (k : ℕ) → IsVal v cs os k → v ≡ val_at m (m.base + k)
  val-here v k h =
      val-is v k h ∙ ap (λ n. val_of n (content os k)) (number_is 0 m k) ∙ ap (val_of (number_at m (m.base + k))) (content_is 0 m k)

  pub stored-held : (s : Store) → Holds cs os s → s ≡ stored (from (val_at m) m.base) (size_of s)
  stored-held Bare h = refl
  stored-held (Slot x v s) h =
      ap (λ x. Slot x v s) h.0 ∙ ap (λ v. Slot (slot (size_of s)) v s) (val-here v (size_of s) h.1)
      ∙ ap (λ t. Slot (slot (size_of s)) (val_at m (m.base + size_of s)) t) (stored-held s h.2)

  val-present : (v : Val) (k : ℕ) → IsVal v cs os k → IsPresent v
  val-present (Num n) k h = tt
  val-present (Arr l) k h = tt
  val-present (Stk l) k h = tt
  val-present Lent k h = absurd h

  present-case : (v : Val) (n k : ℕ) (b : Bool) → nat_eq k n ≡ b → IsVal v cs os n → k < suc n
      → (k < n → IsPresent (val_at m (m.base + k))) → IsPresent (val_at m (m.base + k))
  present-case v n k true e h lt rest =
      subst (λ k. IsPresent (val_at m (m.base + k))) (sym (equal k n e)) (subst IsPresent (val-here v n h) (val-present v n h))
  present-case v n k false e h lt rest = let z = not-equal k n e in rest (omega (arith, lt, z))

  pub present-held : (s : Store) → Holds cs os s → (k : ℕ) → k < size_of s → IsPresent (val_at m (m.base + k))
  present-held Bare h k lt = absurd (omega (arith, lt))
  present-held (Slot x v s) h k lt =
      present-case v (size_of s) k (nat_eq k (size_of s)) refl h.1 lt (λ l. present-held s h.2 k l)

enough-own : (v : ℕ → Val) (b n : ℕ) (calls : List OpenCall) → own_names 0 (callers_of v b calls) ≤ n → IsEnough n calls
enough-own v b n [] h = tt
enough-own v b n (c ∷ calls) h = let m = as-many (slots_of c.args) in omega (arith, h, m)

-- ---- frames that a row runs over

module _ (m : MemoryState) (top : ℕ) (calls : List OpenCall) (i : AreIn m top calls) (wide : length m.contents ≡ length m.numbers) where
  -- it sees the names with their values
  pub seen : IsSeen (top - m.base) (stacks_there (frames_in m top calls)) (values_lent (frames_in m top calls).callers)
      (frames_in m top calls).slots (cells_of m) (others_of m)
  seen = record {
    size = size-stored (from (val_at m) m.base) (top - m.base);
    slots = holds-stored m (top - m.base) i.frames.present;
    above = λ k le. content_is 0 m k ∙ i.above (m.base + k) (let o = i.frames.order in omega (arith, le, o));
    wide = let a = length-drop m.base m.contents in let b = length-drop m.base m.numbers in omega (arith, a, b, wide);
    spare = i.counted.stacks;
    held = let c = i.counted.values in omega (arith, c);
  }

  module _ (free : m.spare + stacks_among m.contents ≡ live_stack_limit) where
    above-top : (p : ℕ) → m.base + (top - m.base) ≤ p → content_at m p ≡ Plain
    above-top p le = i.above p (let o = i.frames.order in omega (arith, le, o))

    -- what callers keep stands in front
    pub stacks-front : stacks_among (take m.base m.contents) ≡ stacks_lent (frames_in m top calls).callers
    stacks-front =
        let a = stacks-parts m (top - m.base) above-top in
        let c = i.counted.stacks in
        omega (arith, a, c, free)

    pub values-front : values_among (take m.base m.contents) ≡ values_lent (frames_in m top calls).callers
    values-front =
        let a = values-parts m (top - m.base) above-top in
        let c = i.counted.values in
        omega (arith, a, c)

    -- It ran: all in front is as it was, and u names have the values of the store s. Of all cells there are as many.
    module _ (n : MemoryState) (before : front_of n ≡ front_of m) (size : length (cells_of n) ≡ length (cells_of m))
        (spare : n.spare + stacks_among n.contents ≡ live_stack_limit) (u : ℕ) (stacks values : ℕ) (s : Store)
        (sees : IsSeen u stacks values s (cells_of n) (others_of n)) (own : own_names 0 (frames_in m top calls).callers ≤ u)
        (room : m.base + u ≤ length m.numbers) where
      base-is : n.base ≡ m.base
      base-is = ap (λ b. b.base) before

      contents-is : take n.base n.contents ≡ take m.base m.contents
      contents-is = ap (λ b. b.contents) before

      numbers-is : take n.base n.numbers ≡ take m.base m.numbers
      numbers-is = ap (λ b. b.numbers) before

      pub room-is : n.room ≡ m.room
      room-is = ap (λ b. b.room) before

      front-number : (p : ℕ) → p < m.base → number_at m p ≡ number_at n p
      front-number p lt =
          sym (get_or-take m.base m.numbers p (pos 0) lt) ∙ ap (λ l. get_or l p (pos 0)) (sym numbers-is)
          ∙ get_or-take n.base n.numbers p (pos 0) (omega (arith, lt, base-is))

      front-content : (p : ℕ) → p < m.base → content_at m p ≡ content_at n p
      front-content p lt =
          sym (get_or-take m.base m.contents p Plain lt) ∙ ap (λ l. get_or l p Plain) (sym contents-is)
          ∙ get_or-take n.base n.contents p Plain (omega (arith, lt, base-is))

      front : (p : ℕ) → p < m.base → val_at m p ≡ val_at n p
      front p lt = ap (λ k. val_of k (content_at m p)) (front-number p lt) ∙ ap (val_of (number_at n p)) (front-content p lt)

      enough : IsEnough u calls
      enough = enough-own (val_at m) m.base u calls own

      behind : (p : ℕ) → n.base + u ≤ p → content_at n p ≡ Plain
      behind p le =
          let z : n.base + (p - n.base) ≡ p = omega (arith, le) in
          sym (ap (content_at n) z) ∙ sym (content_is 0 n (p - n.base)) ∙ sees.above (p - n.base) (omega (arith, le))

      pub callers-are : (frames_in n (n.base + u) calls).callers ≡ (frames_in m top calls).callers
      callers-are = ran-callers m n top u calls i base-is front enough

      slots-of : (frames_in n (n.base + u) calls).slots ≡ stored (from (val_at n) n.base) u
      slots-of = ran-slots m n top u calls i base-is front enough ∙ ap (λ b. stored (from (val_at n) b) u) (sym base-is)

      pub slots-are : (frames_in n (n.base + u) calls).slots ≡ s
      slots-are = slots-of ∙ sym (stored-held n s sees.slots ∙ ap (stored (from (val_at n) n.base)) sees.size)

      stacks-in : stacks_among n.contents ≡ stacks_there (frames_in n (n.base + u) calls)
      stacks-in =
          let a = stacks-parts n u behind in
          let f : stacks_among (take n.base n.contents) ≡ stacks_among (take m.base m.contents) = ap stacks_among contents-is in
          let g = stacks-front in
          let c : stacks_lent (frames_in n (n.base + u) calls).callers ≡ stacks_lent (frames_in m top calls).callers = ap stacks_lent callers-are in
          let d : stacks_in (frames_in n (n.base + u) calls).slots ≡ stacks_in (stored (from (val_at n) n.base) u) = ap stacks_in slots-of in
          omega (arith, a, f, g, c, d)

      values-in : values_among n.contents ≡ values_there (frames_in n (n.base + u) calls)
      values-in =
          let a = values-parts n u behind in
          let f : values_among (take n.base n.contents) ≡ values_among (take m.base m.contents) = ap values_among contents-is in
          let g = values-front in
          let c : values_lent (frames_in n (n.base + u) calls).callers ≡ values_lent (frames_in m top calls).callers = ap values_lent callers-are in
          let d : held_in (frames_in n (n.base + u) calls).slots ≡ held_in (stored (from (val_at n) n.base) u) = ap held_in slots-of in
          omega (arith, a, f, g, c, d)

      long : n.base + u ≤ length n.numbers
      long =
          let a = length-drop m.base m.numbers in
          let b = length-drop n.base n.numbers in
          let t = long-take n.base n.numbers in
          let e : length (take n.base n.numbers) ≡ length (take m.base m.numbers) = ap length numbers-is in
          let l = length-take-le m.base m.numbers (omega (arith, room)) in
          omega (arith, a, b, t, e, l, size, room, base-is)

      pub in-again : AreIn n (n.base + u) calls
      in-again = ran-in m n top u calls i base-is front enough
          (λ k lt. present-held n s sees.slots k (let z = sees.size in omega (arith, lt, z))) behind long
          (record {
            stacks = let a = stacks-in in omega (arith, a, spare);
            values = values-in;
          })

      -- as many stacks live and as many values are kept as the row's reading says
      pub stacks-are : stacks_there (frames_in n (n.base + u) calls) ≡ stacks
      stacks-are = let a = stacks-in in let b = sees.spare in omega (arith, a, b, spare)

      pub values-are : values_lent (frames_in n (n.base + u) calls).callers ≡ values
      values-are =
          let a = values-in in
          let b = sees.held in
          let d : held_in (frames_in n (n.base + u) calls).slots ≡ held_in s = ap held_in slots-are in
          omega (arith, a, b, d)
