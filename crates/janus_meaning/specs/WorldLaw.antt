-- The laws of worlds: what a kernel that keeps one store and a tree of cells stands on.
use Rattle.std.specs.Prelude.{◌≡◌, ℕ, ◌-◌, ◌<◌, ◌≤◌, ◌⊎◌}
use Rattle.janus_meaning.specs.Fault.{Fault, Fine}
use Rattle.janus_meaning.specs.Syntax.{Blk, inverse_block}
use Rattle.janus_meaning.specs.Store.{Store, cleared}
use Rattle.janus_meaning.specs.Formed.{IsReal}
use Rattle.janus_meaning.specs.FormedWorld.{IsFormedWorld, IsFormedCell}
use Rattle.janus_meaning.specs.Outside.{Outside, IsGood}
use Rattle.janus_meaning.specs.Meaning.{Piece, Exec, Part}
use Rattle.janus_meaning.specs.World.{World, Cell, empty_world, entered, taken_back}
use Rattle.janus_meaning.specs.Cells.{WorldExec, WorldPart, WorldStop, CellRun, world_after, IsGoodWorld}

-- A block or a statement leaves all but the values of its store: names, their order and kinds, and lengths of arrays.
abbrev pub KeepsShape : Type 0
KeepsShape =
    (out : Outside) (n : ℕ) (t : Piece) (s r : Store) → Exec out t s n r → cleared r ≡ cleared s

-- At its end and on the way, numbers fit and stacks are within their limits.
abbrev pub KeepsGood : Type 0
KeepsGood =
    (out : Outside) (n : ℕ) (t : Piece) (s m : Store) → IsGood out s → Part out t s n m → IsGood out m

-- The world after some steps is a function of the world before.
pub record WorldsAreFunctions (w : World) (b : Blk) : Type 0 where
  pub part : (j : ℕ) (v : World) → WorldPart w b j v → v ≡ world_after w b j
  pub exec : (n : ℕ) (v : World) → WorldExec w b n v → v ≡ world_after w b n
  pub one_end : (n i : ℕ) (u v : World) → WorldExec w b n u → WorldExec w b i v → n ≡ i
  pub one_stop : (n i : ℕ) (f g : Fault) → WorldStop w b n f → WorldStop w b i g → (n ≡ i) × (f ≡ g)
  pub no_stop_and_end : (n i : ℕ) (f : Fault) (v : World) → WorldStop w b n f → WorldExec w b i v → ⊥

-- A block begins where it is, and ends where its last part is.
pub record WorldsBeginAndEnd (w : World) (b : Blk) : Type 0 where
  pub first : WorldPart w b 0 w
  pub last : (n : ℕ) (v : World) → WorldExec w b n v → WorldPart w b n v
  pub in_time : (n j : ℕ) (v u : World) → WorldExec w b n v → WorldPart w b j u → j ≤ n

-- The inverse block leads from the end back to the beginning, in as many steps and through the same worlds, and
-- meets no fault and no limit.
pub record WorldsGoBack (w : World) (b : Blk) (n : ℕ) (v : World) : Type 0 where
  pub back : WorldExec v (inverse_block b) n w
  pub through : (j : ℕ) (u : World) → WorldPart w b j u → WorldPart v (inverse_block b) (n - j) u
  pub safe : (j : ℕ) (f : Fault) → WorldStop v (inverse_block b) j f → ⊥
  pub good : IsGoodWorld v

abbrev pub WorldsReverse : Type 0
WorldsReverse = (w : World) (b : Blk) (n : ℕ) (v : World) → IsGoodWorld w → WorldExec w b n v → WorldsGoBack w b n v

-- What a cell declares is good.
abbrev pub EnteredIsGood : Type 0
EnteredIsGood = (c : Cell) (w : World) → IsGoodWorld w → IsGoodWorld (entered c w)

-- A cell's run is taken back whole: its inverse, and then its declarations and definitions.
abbrev pub CellIsTakenBack : Type 0
CellIsTakenBack =
    (c : Cell) (w : World) (n : ℕ) (v : World) → IsGoodWorld w → CellRun c w n v →
    WorldExec v (inverse_block c.block) n (entered c w) × (taken_back c (entered c w) ≡ Fine w)

abbrev pub WorldsAreDetermined : Type 0
WorldsAreDetermined = (w : World) (b : Blk) → WorldsAreFunctions w b

abbrev pub WorldsStartAndEnd : Type 0
WorldsStartAndEnd = (w : World) (b : Blk) → WorldsBeginAndEnd w b

-- ---- what may have come of a block in a world within m steps

abbrev pub WorldHasEnded : World → Blk → ℕ → Type 0
WorldHasEnded w b m = (n : ℕ) × (v : World) × (n ≤ m) × WorldExec w b n v

abbrev pub WorldHasStopped : World → Blk → ℕ → Type 0
WorldHasStopped w b m = (j : ℕ) × (f : Fault) × (j < m) × WorldStop w b j f

abbrev pub WorldIsUnderWay : World → Blk → ℕ → Type 0
WorldIsUnderWay w b m = (v : World) × WorldPart w b m v × ((u : World) → WorldExec w b m u → ⊥)

-- Exactly one of these, with the limit on steps among the faults.
pub record WorldExactlyOne (w : World) (b : Blk) (m : ℕ) : Type 0 where
  pub some : WorldHasEnded w b m ⊎ (WorldHasStopped w b m ⊎ WorldIsUnderWay w b m)
  pub ended_or_stopped : WorldHasEnded w b m → WorldHasStopped w b m → ⊥
  pub ended_or_under_way : WorldHasEnded w b m → WorldIsUnderWay w b m → ⊥
  pub stopped_or_under_way : WorldHasStopped w b m → WorldIsUnderWay w b m → ⊥

abbrev pub WorldTrichotomy : Type 0
WorldTrichotomy = (w : World) (b : Blk) (m : ℕ) → WorldExactlyOne w b m

-- ---- well-formed cells

-- It stops only at the faults of the table.
abbrev pub FormedCellIsSafe : Type 0
FormedCellIsSafe =
    (c : Cell) (w : World) (j : ℕ) (f : Fault) → IsFormedWorld w → IsFormedCell c w → WorldStop (entered c w) c.block j f → IsReal f

-- A well-formed cell of n steps over the world w, with v at its end: the worlds that it leads to are well formed, and what any
-- run of its inverse and the taking back of its declarations and definitions lead to from there is w itself.
pub record KeepsFormed (c : Cell) (w : World) (n : ℕ) (v : World) : Type 0 where
  pub entered_is : IsFormedWorld (entered c w)
  pub ended_is : CellRun c w n v → IsFormedWorld v
  pub taken_back_is : (i : ℕ) (u r : World) → CellRun c w n v → WorldExec v (inverse_block c.block) i u → taken_back c u ≡ Fine r → w ≡ r

-- The empty world is well formed, and so are all worlds that well-formed cells lead to. In each of them numbers fit and stacks
-- are within their limit, which is the premise of going back.
pub record FormedWorldsLast : Type 0 where
  pub good : (w : World) → IsFormedWorld w → IsGoodWorld w
  pub first : IsFormedWorld empty_world
  pub later : (c : Cell) (w : World) (n : ℕ) (v : World) → IsFormedWorld w → IsFormedCell c w → KeepsFormed c w n v
