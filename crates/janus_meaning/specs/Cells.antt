-- Exec, Part and Stop of a block in a world, and the run of a cell.
use Rattle.std.specs.Prelude.{◌≡◌, ℕ, ◌<◌, ◌≤◌, ◌⊎◌, List, []}
use Rattle.janus_meaning.specs.Fault.{Fault, StepLimit}
use Rattle.janus_meaning.specs.Limit.{frame_limit, step_limit}
use Rattle.janus_meaning.specs.Syntax.{Blk, Proc}
use Rattle.janus_meaning.specs.Store.{Store}
use Rattle.janus_meaning.specs.Outside.{Outside, outside, IsGood}
use Rattle.janus_meaning.specs.Meaning.{Run, Going, Whole, Block, Exec, Part, Stop}
use Rattle.janus_meaning.specs.Stepping.{BeforeBlock, Next, To, End, Halt, steps, shown}
use Rattle.janus_meaning.specs.World.{World, Cell, entered, stacks_in, size_of, oldest}

-- what stands outside a block that is run in a world: nothing is open round it, and the world's stacks live
abbrev pub around : World → Outside
around w = outside w.procedures frame_limit (stacks_in w.store) 0

-- The block b, run in the world w, has ended after n steps, in the world v.
pub record WorldExec (w : World) (b : Blk) (n : ℕ) (v : World) : Type 0 where
  pub limit : n ≤ step_limit
  pub ran : Exec (around w) (Block b) w.store n v.store
  pub procedures : v.procedures ≡ w.procedures

-- After j steps the world shown is v: of the store after them the names of w alone, no locals.
pub record WorldPart (w : World) (b : Blk) (j : ℕ) (v : World) : Type 0 where
  pub limit : j ≤ step_limit
  pub store : Store
  pub part : Part (around w) (Block b) w.store j store
  pub shown : v ≡ record w { store = oldest (size_of w.store) store }

-- the block is under way after j steps
abbrev pub IsUnended : World → Blk → ℕ → Type 0
IsUnended w b j = (m : Store) × Run (around w) (Whole (Block b)) w.store j (Going m)

-- After j steps the block meets the fault f: the limit on steps before any other.
abbrev pub WorldStop : World → Blk → ℕ → Fault → Type 0
WorldStop w b j f =
    ((j < step_limit) × Stop (around w) (Block b) w.store j f) ⊎ ((j ≡ step_limit) × (f ≡ StepLimit) × IsUnended w b j)

-- The cell c, run in the world w, has ended after n steps, in the world v.
abbrev pub CellRun : Cell → World → ℕ → World → Type 0
CellRun c w n v = WorldExec (entered c w) c.block n v

-- ---- the same as a function

abbrev pub store_at : List Proc → Next → Store → Store
store_at ps (To p s) other = shown ps p s
store_at ps End other = other
store_at ps (Halt f) other = other

-- the store after n steps of a block in a world, or the old one where it has fewer
unfoldable pub store_after : World → Blk → ℕ → Store
store_after w b n = store_at w.procedures (steps (around w) n (BeforeBlock b []) w.store) w.store

-- the world shown after n steps: what `WorldPart` and `WorldExec` tell, computed from the world before
unfoldable pub world_after : World → Blk → ℕ → World
world_after w b n = record w { store = oldest (size_of w.store) (store_after w b n) }

-- each number fits 32 bits, and the stacks are within their limit together
abbrev pub IsGoodWorld : World → Type 0
IsGoodWorld w = IsGood (around w) w.store
