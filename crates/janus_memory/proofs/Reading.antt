-- What the fields have at a place, read from the state that contracts see.
use Rattle.std.proofs.Common.{◌≡◌, ℕ, ◌+◌, ◌<◌, [], length, get_or, ap, ◌∙◌, sym, arith}
use Rattle.janus_meaning.specs.Limit.{live_stack_limit}
use Rattle.cell_pool.specs.Chains.{times}
use Rattle.janus_memory.specs.Lists.{list_of}
use Rattle.janus_memory.specs.Memory.{MemoryState, content_at, number_at, stack_of, values_among}
use Rattle.janus_memory.specs.Stacks.{total}
use Rattle.janus_memory.specs.Inside.{heap_of, content_in, memory_of, IsKept}
use Rattle.janus_memory.specs.declared.cell.Cell.{Cell}
use Rattle.janus_memory.specs.declared.cell.Held.{Held}
use Rattle.janus_memory.specs.declared.cell.Held.TheVariants as helds
use Rattle.janus_memory.specs.declared.memory.Memory.TheInside.{Inside}
use Rattle.janus_memory.proofs.Cells.{cell_at, held_at, number-here, content-here, numbers-long, read-cell}
use Rattle.janus_memory.proofs.Owned.{array-here, stack-here}

module _ {L : Type 0} (a : Inside L) (m : MemoryState) (e : memory_of a ≡ m) where
  -- a place is one of a cell
  pub place-low : (p : ℕ) → p < length m.numbers → p < length a.cells.items
  place-low p l = let z = numbers-long a.cells.items in omega (arith, l, z, ap (λ (m : MemoryState). length m.numbers) e)

  pub frame-low : (k : ℕ) → m.base + k < length m.numbers → a.base + k < length a.cells.items
  frame-low k l = let z = place-low (m.base + k) l in omega (arith, z, ap (λ (m : MemoryState). m.base) e)

  pub same-place : (k : ℕ) → a.base + k ≡ m.base + k
  same-place k = ap (λ (m : MemoryState). m.base + k) e

  -- what is seen at a place of a cell
  pub number-seen : (p : ℕ) → p < length a.cells.items → number_at m p ≡ (cell_at a.cells.items p).number
  number-seen p l = ap (λ (m : MemoryState). number_at m p) (sym e) ∙ number-here a.cells.items p l

  pub content-seen : (p : ℕ) → p < length a.cells.items → content_at m p ≡ content_in (heap_of a) (held_at a.cells.items p)
  content-seen p l = ap (λ (m : MemoryState). content_at m p) (sym e) ∙ content-here (heap_of a) a.cells.items p l

  -- where a cell that was read has this
  pub held-seen : (p : ℕ) (c : Cell) (k : Held) → p < length a.cells.items → c ≡ get_or a.cells.items p c → c.held ≡ k
      → content_at m p ≡ content_in (heap_of a) k
  held-seen p c k l r h = content-seen p l ∙ ap (λ (c : Cell). content_in (heap_of a) c.held) (sym (read-cell a.cells.items p c l r))
      ∙ ap (content_in (heap_of a)) h

  -- a stack of which no value is seen
  pub empty-seen : (p : ℕ) (c : Cell) (j : ℕ) → p < length a.cells.items → c ≡ get_or a.cells.items p c → c.held ≡ helds.Stack j
      → stack_of (content_at m p) ≡ []
      → list_of a.stacks.lists j ≡ []
  empty-seen p c j l r h z = ap stack_of (sym (held-seen p c (helds.Stack j) l r h)) ∙ z

  pub values-seen : IsKept a → total a.stacks.lists ≡ values_among m.contents
  values-seen i = i.counted.values ∙ ap (λ (m : MemoryState). values_among m.contents) e

module _ {L : Type 0} (a : Inside L) (p : ℕ) (c : Cell) (l : p < length a.cells.items) (r : c ≡ get_or a.cells.items p c) where
  pub held-read : (k : Held) → c.held ≡ k → held_at a.cells.items p ≡ k
  held-read k h = ap (λ (c : Cell). c.held) (sym (read-cell a.cells.items p c l r)) ∙ h

  pub array-low : (j : ℕ) → IsKept a → c.held ≡ helds.Array j → j < length a.arrays
  array-low j i h = array-here (length a.arrays) a.stacks.spare a.cells.items p j i.owned l (held-read (helds.Array j) h)

  pub stack-low : (j : ℕ) → IsKept a → c.held ≡ helds.Stack j → j < live_stack_limit
  stack-low j i h = (stack-here (length a.arrays) a.stacks.spare a.cells.items p j i.owned l (held-read (helds.Stack j) h)).0

  pub stack-used : (j : ℕ) → IsKept a → c.held ≡ helds.Stack j → times j a.stacks.spare ≡ 0
  stack-used j i h = (stack-here (length a.arrays) a.stacks.spare a.cells.items p j i.owned l (held-read (helds.Stack j) h)).1
