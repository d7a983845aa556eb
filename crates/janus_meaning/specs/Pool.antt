-- The pool of values beside its parts: what ran where each stack had a part for itself runs where one stack may take all.
use Rattle.std.specs.Prelude.{◌≡◌, ℕ, ◌+◌, ◌*◌, ◌≤◌}
use Rattle.janus_meaning.specs.Limit.{live_stack_limit, part_limit, parts, pool}
use Rattle.janus_meaning.specs.Store.{Store, Each, IsShort}
use Rattle.janus_meaning.specs.World.{World, stacks_in}
use Rattle.janus_meaning.specs.Outside.{Outside, under}
use Rattle.janus_meaning.specs.Meaning.{Piece, Exec}
use Rattle.janus_meaning.specs.Cells.{around}
use Rattle.janus_meaning.specs.FormedWorld.{IsFormedWorld}

-- At most 64 stacks live. Those of the store hold at most 4,096 values each, and the others in all at most 4,096 times their
-- number.
pub record IsInParts (out : Outside) (s : Store) : Type 0 where
  pub others : ℕ
  pub live : out.stacks ≡ stacks_in s + others
  pub few : out.stacks ≤ live_stack_limit
  pub of_store : Each (IsShort parts.single) s
  pub of_others : out.values ≤ part_limit * others

-- What Exec gave with a part for each stack, it gives with one pool for all, in as many steps and with the same store.
abbrev pub PartsRunInPool : Type 0
PartsRunInPool =
    (out : Outside) (t : Piece) (s : Store) (n : ℕ) (r : Store) → IsInParts out s →
    Exec (under parts out) t s n r → Exec (under pool out) t s n r

-- A well-formed world is such a place to start from where each of its stacks holds at most 4,096 values.
abbrev pub FormedWorldsAreInParts : Type 0
FormedWorldsAreInParts = (w : World) → IsFormedWorld w → Each (IsShort parts.single) w.store → IsInParts (around w) w.store
