-- How the fields of the memory are read, and its invariant: each array and each stack has one cell.
use Rattle.std.specs.Prelude.{◌≡◌, ℕ, ◌+◌, ◌<◌, ◌≤◌, ℤ, List, length, map, nat_eq, vec_capacity}
use Rattle.cell_pool.specs.Chains.{times, one_if}
use Rattle.janus_meaning.specs.Limit.{live_stack_limit}
use Rattle.janus_memory.specs.Lists.{list_of}
use Rattle.janus_memory.specs.Memory.{Content, Plain, HasArray, HasStack, Gone, MemoryState, amount, stacks_among, values_among}
use Rattle.janus_memory.specs.Stacks.{total}
use Rattle.janus_memory.specs.declared.cell.Cell.{Cell}
use Rattle.janus_memory.specs.declared.cell.Held.{Held}
use Rattle.janus_memory.specs.declared.cell.Held.TheVariants as helds
use Rattle.janus_memory.specs.declared.memory.Memory.TheInside.{Inside}

-- the arrays and the stacks, each at its index
pub record Heap : Type 0 where
  pub arrays : List (List ℤ)
  pub stacks : List (List ℤ)

-- what a cell has
abbrev pub content_in : Heap → Held → Content
content_in h helds.Nothing = Plain
content_in h (helds.Array i) = HasArray (list_of h.arrays i)
content_in h (helds.Stack i) = HasStack (list_of h.stacks i)
content_in h helds.Lent = Gone

abbrev pub numbers_of : List Cell → List ℤ
numbers_of cs = map (λ (c : Cell). c.number) cs

abbrev pub contents_of : Heap → List Cell → List Content
contents_of h cs = map (λ (c : Cell). content_in h c.held) cs

-- how often a cell has the array of an index
abbrev pub array_times : ℕ → Held → ℕ
array_times i helds.Nothing = 0
array_times i (helds.Array j) = one_if (nat_eq i j)
array_times i (helds.Stack j) = 0
array_times i helds.Lent = 0

-- how often it has the stack of an index
abbrev pub stack_times : ℕ → Held → ℕ
stack_times i helds.Nothing = 0
stack_times i (helds.Array j) = 0
stack_times i (helds.Stack j) = one_if (nat_eq i j)
stack_times i helds.Lent = 0

-- how many cells have it
abbrev pub arrays_at : ℕ → List Cell → ℕ
arrays_at i cs = amount (λ (c : Cell). array_times i c.held) cs

abbrev pub stacks_at : ℕ → List Cell → ℕ
stacks_at i cs = amount (λ (c : Cell). stack_times i c.held) cs

-- an array has one cell at most, and each stack that may live has one or is a spare one
pub record AreOwned (arrays : ℕ) (spare : List ℕ) (cs : List Cell) : Type 0 where
  pub arrays_once : (i : ℕ) → arrays_at i cs ≤ 1
  pub arrays_known : (i : ℕ) → arrays ≤ i → arrays_at i cs ≡ 0
  pub stacks_once : (i : ℕ) → i < live_stack_limit → times i spare + stacks_at i cs ≡ 1
  pub stacks_known : (i : ℕ) → live_stack_limit ≤ i → times i spare + stacks_at i cs ≡ 0

-- the stacks of cells and the spare ones are all that may be, and they hold what the pool does
pub record AreCounted (spare : List ℕ) (lists : List (List ℤ)) (cs : List Content) : Type 0 where
  pub stacks : length spare + stacks_among cs ≡ live_stack_limit
  pub values : total lists ≡ values_among cs

-- all arrays and all stacks
abbrev pub heap_of : {L : Type 0} → Inside L → Heap
heap_of a = record { arrays = a.arrays; stacks = a.stacks.lists }

-- what the fields hold
abbrev pub memory_of : {L : Type 0} → Inside L → MemoryState
memory_of a = record {
  numbers = numbers_of a.cells.items;
  contents = contents_of (heap_of a) a.cells.items;
  base = a.base;
  results = a.results;
  spare = length a.stacks.spare;
  room = vec_capacity a.cells;
  writes = a.writes;
}

-- the invariant of the memory
pub record IsKept {L : Type 0} (a : Inside L) : Type 0 where
  pub owned : AreOwned (length a.arrays) a.stacks.spare a.cells.items
  pub counted : AreCounted a.stacks.spare a.stacks.lists (contents_of (heap_of a) a.cells.items)
