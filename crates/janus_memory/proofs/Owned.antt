-- Each array and each stack has one cell, also behind changes.
use Rattle.std.proofs.Common.{◌≡◌, ◌≢◌, ℕ, suc, ◌+◌, ◌<◌, ◌≤◌, ℤ, List, [], ◌∷◌, ◌++◌, length, set, get_or, refl, ap, ◌∙◌, sym, arith}
use Rattle.std.proofs.Common.{⊎_elim, true, false, Bool, nat_eq}
use Rattle.std.proofs.lemmas.Bool.{cases_lt}
use Rattle.cell_pool.specs.Chains.{times, one_if}
use Rattle.cell_pool.proofs.Chains.{once_here, nowhere, differ}
use Rattle.janus_meaning.specs.Limit.{live_stack_limit}
use Rattle.janus_memory.specs.Lists.{list_of}
use Rattle.janus_memory.specs.Memory.{Content, Plain, HasArray, HasStack, stack_count, value_count}
use Rattle.janus_memory.specs.Stacks.{total}
use Rattle.janus_memory.specs.Inside.{Heap, content_in, contents_of, array_times, stack_times, arrays_at, stacks_at, AreOwned, AreCounted}
use Rattle.janus_memory.specs.declared.cell.Cell.{Cell}
use Rattle.janus_memory.specs.declared.cell.Held.TheVariants as helds
use Rattle.janus_memory.proofs.Amounts.{amount-set, amount-at}
use Rattle.janus_memory.proofs.Cells.{plain_cell, held_at, one-changed}
use Rattle.janus_memory.proofs.Pooled.{times_more}

-- ---- how often an index stands in changed cells

arrays-set : (cs : List Cell) (p : ℕ) (c : Cell) (i : ℕ) → p < length cs
    → arrays_at i (set cs p c) + array_times i (held_at cs p) ≡ arrays_at i cs + array_times i c.held
arrays-set cs p c i l = amount-set (λ (c : Cell). array_times i c.held) plain_cell cs p c l

stacks-set : (cs : List Cell) (p : ℕ) (c : Cell) (i : ℕ) → p < length cs
    → stacks_at i (set cs p c) + stack_times i (held_at cs p) ≡ stacks_at i cs + stack_times i c.held
stacks-set cs p c i l = amount-set (λ (c : Cell). stack_times i c.held) plain_cell cs p c l

-- ---- what a cell's array and its stack are

pub array-here : (a : ℕ) (s : List ℕ) (cs : List Cell) (p j : ℕ) → AreOwned a s cs → p < length cs → held_at cs p ≡ helds.Array j → j < a
array-here a s cs p j w l e =
    let one : array_times j (held_at cs p) ≡ 1 = ap (array_times j) e ∙ once_here j in
    let some = amount-at (λ (c : Cell). array_times j c.held) plain_cell cs p l in
    ⊎_elim (λ (lt : j < a). lt) (λ (le : a ≤ j). absurd (let z = w.arrays_known j le in omega (arith, one, some, z))) (cases_lt j a)

pub stack-here : (a : ℕ) (s : List ℕ) (cs : List Cell) (p j : ℕ) → AreOwned a s cs → p < length cs → held_at cs p ≡ helds.Stack j
    → (j < live_stack_limit) × (times j s ≡ 0)
stack-here a s cs p j w l e =
    let one : stack_times j (held_at cs p) ≡ 1 = ap (stack_times j) e ∙ once_here j in
    let some = amount-at (λ (c : Cell). stack_times j c.held) plain_cell cs p l in
    ⊎_elim (λ (lt : j < live_stack_limit). (lt, let z = w.stacks_once j lt in omega (arith, one, some, z)))
    (λ (le : live_stack_limit ≤ j). absurd (let z = w.stacks_known j le in omega (arith, one, some, z))) (cases_lt j live_stack_limit)

-- no stack has two cells
stacks-most : (a : ℕ) (s : List ℕ) (cs : List Cell) (i : ℕ) → AreOwned a s cs → stacks_at i cs ≤ 1
stacks-most a s cs i w =
    ⊎_elim (λ (lt : i < live_stack_limit). let z = w.stacks_once i lt in omega (arith, z))
    (λ (le : live_stack_limit ≤ i). let z = w.stacks_known i le in omega (arith, z)) (cases_lt i live_stack_limit)

-- ---- other elements, other values

pub array-changed : (a : ℕ) (s : List ℕ) (h : Heap) (ls : List (List ℤ)) (cs : List Cell) (p j : ℕ) → AreOwned a s cs → p < length cs
    → held_at cs p ≡ helds.Array j → ((i : ℕ) → i ≢ j → list_of ls i ≡ list_of h.arrays i)
    → contents_of (record { arrays = ls; stacks = h.stacks }) cs ≡ set (contents_of h cs) p (HasArray (list_of ls j))
array-changed a s h ls cs p j w l e r =
    let g : Heap = record { arrays = ls; stacks = h.stacks } in
    one-changed h g cs p l
    (λ i m. r i (λ f.
    let one : array_times i (held_at cs p) ≡ 1 = ap (array_times i) e ∙ ap (λ j. one_if (nat_eq i j)) (sym f) ∙ once_here i in
    let most = w.arrays_once i in omega (arith, one, most, m)))
    (λ i m. refl)
    ∙ ap (λ k. set (contents_of h cs) p (content_in g k)) e

pub stack-changed : (a : ℕ) (s : List ℕ) (h : Heap) (ls : List (List ℤ)) (cs : List Cell) (p j : ℕ) → AreOwned a s cs → p < length cs
    → held_at cs p ≡ helds.Stack j → ((i : ℕ) → i ≢ j → list_of ls i ≡ list_of h.stacks i)
    → contents_of (record { arrays = h.arrays; stacks = ls }) cs ≡ set (contents_of h cs) p (HasStack (list_of ls j))
stack-changed a s h ls cs p j w l e r =
    let g : Heap = record { arrays = h.arrays; stacks = ls } in
    one-changed h g cs p l
    (λ i m. refl)
    (λ i m. r i (λ f.
    let one : stack_times i (held_at cs p) ≡ 1 = ap (stack_times i) e ∙ ap (λ j. one_if (nat_eq i j)) (sym f) ∙ once_here i in
    let most = stacks-most a s cs i w in omega (arith, one, most, m)))
    ∙ ap (λ k. set (contents_of h cs) p (content_in g k)) e

-- ---- other cells

pub same-owned : (a : ℕ) (s : List ℕ) (cs ds : List Cell) → AreOwned a s cs → ((i : ℕ) → arrays_at i ds ≡ arrays_at i cs)
    → ((i : ℕ) → stacks_at i ds ≡ stacks_at i cs) → AreOwned a s ds
same-owned a s cs ds w f g = record {
  arrays_once = λ i. let e = f i in let z = w.arrays_once i in omega (arith, e, z);
  arrays_known = λ i l. f i ∙ w.arrays_known i l;
  stacks_once = λ i l. ap (λ n. times i s + n) (g i) ∙ w.stacks_once i l;
  stacks_known = λ i l. ap (λ n. times i s + n) (g i) ∙ w.stacks_known i l;
}

-- a cell has the same as before, beside another number
pub number-owned : (a : ℕ) (s : List ℕ) (cs : List Cell) (p : ℕ) (c : Cell) → AreOwned a s cs → p < length cs → c.held ≡ held_at cs p
    → AreOwned a s (set cs p c)
number-owned a s cs p c w l e = same-owned a s cs (set cs p c) w
    (λ i. let z = arrays-set cs p c i l in let y = ap (array_times i) e in omega (arith, z, y))
    (λ i. let z = stacks-set cs p c i l in let y = ap (stack_times i) e in omega (arith, z, y))

-- a plain cell has a stack that was a spare one
pub open-owned : (a : ℕ) (s t : List ℕ) (cs : List Cell) (p j : ℕ) (c : Cell) → AreOwned a s cs → p < length cs → held_at cs p ≡ helds.Nothing
    → c.held ≡ helds.Stack j → s ≡ t ++ j ∷ [] → AreOwned a t (set cs p c)
open-owned a s t cs p j c w l e f g = record {
  arrays_once = λ i. let z = alike i in let y = w.arrays_once i in omega (arith, z, y);
  arrays_known = λ i m. alike i ∙ w.arrays_known i m;
  stacks_once = λ i m. let z = sums i in let y = w.stacks_once i m in omega (arith, z, y);
  stacks_known = λ i m. let z = sums i in let y = w.stacks_known i m in omega (arith, z, y);
}
  where
    alike : (i : ℕ) → arrays_at i (set cs p c) ≡ arrays_at i cs
    alike i = let z = arrays-set cs p c i l in let x = ap (array_times i) e in let y = ap (array_times i) f in omega (arith, x, y, z)

    sums : (i : ℕ) → times i t + stacks_at i (set cs p c) ≡ times i s + stacks_at i cs
    sums i =
        let z = stacks-set cs p c i l in
        let x = ap (stack_times i) e in
        let y = ap (stack_times i) f in
        let v = times_more i t j in
        let u = ap (times i) g in omega (arith, u, v, x, y, z)

-- its stack is a spare one then
pub close-owned : (a : ℕ) (s t : List ℕ) (cs : List Cell) (p j : ℕ) (c : Cell) → AreOwned a s cs → p < length cs → held_at cs p ≡ helds.Stack j
    → c.held ≡ helds.Nothing → t ≡ s ++ j ∷ [] → AreOwned a t (set cs p c)
close-owned a s t cs p j c w l e f g = record {
  arrays_once = λ i. let z = alike i in let y = w.arrays_once i in omega (arith, z, y);
  arrays_known = λ i m. alike i ∙ w.arrays_known i m;
  stacks_once = λ i m. let z = sums i in let y = w.stacks_once i m in omega (arith, z, y);
  stacks_known = λ i m. let z = sums i in let y = w.stacks_known i m in omega (arith, z, y);
}
  where
    alike : (i : ℕ) → arrays_at i (set cs p c) ≡ arrays_at i cs
    alike i = let z = arrays-set cs p c i l in let x = ap (array_times i) e in let y = ap (array_times i) f in omega (arith, x, y, z)

    sums : (i : ℕ) → times i t + stacks_at i (set cs p c) ≡ times i s + stacks_at i cs
    sums i =
        let z = stacks-set cs p c i l in
        let x = ap (stack_times i) e in
        let y = ap (stack_times i) f in
        let v = times_more i s j in
        let u = ap (times i) g in omega (arith, u, v, x, y, z)

-- a plain cell has a new array
pub array-owned : (a : ℕ) (s : List ℕ) (cs : List Cell) (p : ℕ) (c : Cell) → AreOwned a s cs → p < length cs → held_at cs p ≡ helds.Nothing
    → c.held ≡ helds.Array a → AreOwned (suc a) s (set cs p c)
array-owned a s cs p c w l e f = record {
  arrays_once = λ i.
      let z = sums i in
      ⊎_elim
      (λ (lt : i < a). let y = w.arrays_once i in let n = nowhere i a (λ q. omega (arith, lt, q)) in omega (arith, z, y, n))
      (λ (le : a ≤ i). let y = w.arrays_known i le in let n = most (nat_eq i a) in omega (arith, z, y, n)) (cases_lt i a);
  arrays_known = λ i m.
      let z = sums i in
      let y = w.arrays_known i (omega (arith, m)) in
      let n = nowhere i a (λ q. omega (arith, m, q)) in omega (arith, z, y, n);
  stacks_once = λ i m. ap (λ n. times i s + n) (alike i) ∙ w.stacks_once i m;
  stacks_known = λ i m. ap (λ n. times i s + n) (alike i) ∙ w.stacks_known i m;
}
  where
    most : (b : Bool) → one_if b ≤ 1
    most true = omega arith
    most false = omega arith

    alike : (i : ℕ) → stacks_at i (set cs p c) ≡ stacks_at i cs
    alike i = let z = stacks-set cs p c i l in let x = ap (stack_times i) e in let y = ap (stack_times i) f in omega (arith, x, y, z)

    sums : (i : ℕ) → arrays_at i (set cs p c) ≡ arrays_at i cs + one_if (nat_eq i a)
    sums i = let z = arrays-set cs p c i l in let x = ap (array_times i) e in let y = ap (array_times i) f in omega (arith, x, y, z)

-- its array is let go
pub release-owned : (a b : ℕ) (s : List ℕ) (cs : List Cell) (p j : ℕ) (c : Cell) → AreOwned a s cs → p < length cs → held_at cs p ≡ helds.Array j
    → c.held ≡ helds.Nothing → ((i : ℕ) → i < a → i ≢ j → i < b) → AreOwned b s (set cs p c)
release-owned a b s cs p j c w l e f g = record {
  arrays_once = λ i. let z = sums i in let y = w.arrays_once i in omega (arith, z, y);
  arrays_known = λ i m. known i m (nat_eq i j) refl;
  stacks_once = λ i m. ap (λ n. times i s + n) (alike i) ∙ w.stacks_once i m;
  stacks_known = λ i m. ap (λ n. times i s + n) (alike i) ∙ w.stacks_known i m;
}
  where
    alike : (i : ℕ) → stacks_at i (set cs p c) ≡ stacks_at i cs
    alike i = let z = stacks-set cs p c i l in let x = ap (stack_times i) e in let y = ap (stack_times i) f in omega (arith, x, y, z)

    sums : (i : ℕ) → arrays_at i (set cs p c) + one_if (nat_eq i j) ≡ arrays_at i cs
    sums i = let z = arrays-set cs p c i l in let x = ap (array_times i) e in let y = ap (array_times i) f in omega (arith, x, y, z)

    known : (i : ℕ) → b ≤ i → (q : Bool) → nat_eq i j ≡ q → arrays_at i (set cs p c) ≡ 0
    known i m true q = let z = sums i in let y = w.arrays_once i in let n = ap one_if q in omega (arith, z, y, n)
    known i m false q =
        ⊎_elim
        (λ (lt : i < a). absurd (let r = g i lt (λ k. let n : one_if (nat_eq i j) ≡ 1 = ap (λ k. one_if (nat_eq i k)) (sym k) ∙ once_here i in
        let o = ap one_if q in omega (arith, n, o)) in omega (arith, r, m)))
        (λ (le : a ≤ i). let z = sums i in let y = w.arrays_known i le in omega (arith, z, y)) (cases_lt i a)

-- ---- how many stacks and values there are

pub counted-set : (s t : List ℕ) (ls ms : List (List ℤ)) (xs : List Content) (p : ℕ) (x : Content) → AreCounted s ls xs → p < length xs
    → length t + stack_count x ≡ length s + stack_count (get_or xs p Plain) → total ms + value_count (get_or xs p Plain) ≡ total ls + value_count x
    → AreCounted t ms (set xs p x)
counted-set s t ls ms xs p x w l e f = record {
  stacks = let z = amount-set stack_count Plain xs p x l in let y = w.stacks in omega (arith, z, y, e);
  values = let z = amount-set value_count Plain xs p x l in let y = w.values in omega (arith, z, y, f);
}

-- an index that a cell's array has is one of an array
pub array-known : (a : ℕ) (s : List ℕ) (cs : List Cell) (i : ℕ) → AreOwned a s cs → 1 ≤ arrays_at i cs → i < a
array-known a s cs i w l = ⊎_elim (λ (lt : i < a). lt) (λ (le : a ≤ i). absurd (let z = w.arrays_known i le in omega (arith, z, l))) (cases_lt i a)

-- the arrays of other cells, where one cell's is let go
pub array-kept : (a : ℕ) (s : List ℕ) (cs : List Cell) (p j : ℕ) (c : Cell) (i : ℕ) → AreOwned a s cs → p < length cs → held_at cs p ≡ helds.Array j
    → c.held ≡ helds.Nothing → 1 ≤ arrays_at i (set cs p c) → (i < a) × (i ≢ j)
array-kept a s cs p j c i w l e f m =
    let z = arrays-set cs p c i l in
    let x : array_times i (held_at cs p) ≡ one_if (nat_eq i j) = ap (array_times i) e in
    let y = ap (array_times i) f in
    let most = w.arrays_once i in
    let none : one_if (nat_eq i j) ≡ 0 = omega (arith, z, x, y, most, m) in
    let ne = differ i j none in
    (array-known a s cs i w (omega (arith, z, x, y, m)), λ q. ne (sym q))

-- a spare stack is one that may live
pub spare-low : (a : ℕ) (s t : List ℕ) (cs : List Cell) (j : ℕ) → AreOwned a s cs → s ≡ t ++ j ∷ [] → j < live_stack_limit
spare-low a s t cs j w e =
    ⊎_elim (λ (lt : j < live_stack_limit). lt)
    (λ (le : live_stack_limit ≤ j). absurd (let z = w.stacks_known j le in let v = times_more j t j in let u = ap (times j) e in
    omega (arith, z, v, u, once_here j))) (cases_lt j live_stack_limit)
