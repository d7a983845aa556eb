-- That names don't matter: with slots in their place a block takes the same steps.
use Rattle.std.specs.Prelude.{◌≡◌, ℕ, List, [], ◌∷◌}
use Rattle.janus_meaning.specs.Fault.{Fault}
use Rattle.janus_meaning.specs.Syntax.{Name, Blk, Proc, inverse_block}
use Rattle.janus_meaning.specs.Store.{Store}
use Rattle.janus_meaning.specs.Outside.{Outside}
use Rattle.janus_meaning.specs.World.{size_of, oldest}
use Rattle.janus_meaning.specs.Meaning.{Block, Exec, Part, Stop}
use Rattle.janus_meaning.specs.Stepping.{BeforeBlock, steps}
use Rattle.janus_slots.specs.Numbers.{IsMet}
use Rattle.janus_slots.specs.Slots.{block_in, names_in, in_slots, under_names, outside_in}
use Rattle.janus_slots.specs.Places.{next_in}

-- each procedure has its name in the table
abbrev pub AreListed : List Name → List Proc → Type 0
AreListed es [] = Unit {0}
AreListed es (p ∷ ps) = IsMet es p.name × AreListed es ps

-- With slots in place of names, the machine takes the same steps to the same places and stores, and stops for the same faults.
abbrev pub StepsAreTheSame : Type 0
StepsAreTheSame =
    (es : List Name) (out : Outside) (n : ℕ) (b : Blk) (s : Store) → AreListed es out.procedures →
    steps (outside_in es out) n (BeforeBlock (block_in es (names_in s) b) []) (in_slots s)
    ≡ next_in es out.procedures (names_in s) (steps out n (BeforeBlock b []) s)

-- What is shown after n steps of a block from s, where its slots show m. In it the names of open locals stand above those of s; so
-- these give back its oldest part alone.
pub record ShownBy (out : Outside) (b : Blk) (s : Store) (n : ℕ) (m : Store) : Type 0 where
  pub store : Store
  pub part : Part out (Block b) s n store
  pub slots : in_slots store ≡ m
  pub declared : under_names (names_in s) (oldest (size_of s) m) ≡ oldest (size_of s) store

-- What n steps of a block lead to, and what its slots lead to.
pub record RunsTheSame (es : List Name) (out : Outside) (b : Blk) (s : Store) (n : ℕ) : Type 0 where
  pub ends : (r : Store) → Exec out (Block b) s n r → Exec (outside_in es out) (Block (block_in es (names_in s) b)) (in_slots s) n (in_slots r)
  pub ended : (r : Store) → Exec (outside_in es out) (Block (block_in es (names_in s) b)) (in_slots s) n r →
      Exec out (Block b) s n (under_names (names_in s) r)
  pub kept : (r : Store) → Exec (outside_in es out) (Block (block_in es (names_in s) b)) (in_slots s) n r → in_slots (under_names (names_in s) r) ≡ r
  pub shows : (m : Store) → Part out (Block b) s n m → Part (outside_in es out) (Block (block_in es (names_in s) b)) (in_slots s) n (in_slots m)
  pub shown : (m : Store) → Part (outside_in es out) (Block (block_in es (names_in s) b)) (in_slots s) n m → ShownBy out b s n m
  pub stops : (f : Fault) → Stop out (Block b) s n f → Stop (outside_in es out) (Block (block_in es (names_in s) b)) (in_slots s) n f
  pub stopped : (f : Fault) → Stop (outside_in es out) (Block (block_in es (names_in s) b)) (in_slots s) n f → Stop out (Block b) s n f

-- A block and its slots run alike, where each procedure is listed.
abbrev pub RunsAreTheSame : Type 0
RunsAreTheSame = (es : List Name) (out : Outside) (b : Blk) (s : Store) (n : ℕ) → AreListed es out.procedures → RunsTheSame es out b s n

-- Slots leave the inverse of a block, and the names of a store give it back.
pub record SlotsStay : Type 0 where
  pub inverse : (es g : List Name) (b : Blk) → inverse_block (block_in es g b) ≡ block_in es g (inverse_block b)
  pub store : (s : Store) → under_names (names_in s) (in_slots s) ≡ s
