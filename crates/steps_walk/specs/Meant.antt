-- Where a walk stands in the meaning, and what stands in its store there.
use Rattle.std.specs.Prelude.{◌≡◌, false, []}
use Rattle.janus_meaning.specs.Store.{Store}
use Rattle.janus_meaning.specs.Cells.{around}
use Rattle.janus_meaning.specs.Stepping as machine
use Rattle.janus_meaning.specs.Stepping.{BeforeBlock, To, steps, frames_of}
use Rattle.janus_slots.specs.Slots.{names_in, in_slots}
use Rattle.janus_slots.specs.Places.{place_in, sight_at}
use Rattle.janus_machine.specs.Cursors.{place_of}
use Rattle.kernel_machine.specs.Language.{run_block}
use Rattle.kernel_runner.specs.Runner.{Place, Is, Inside, start_at}
use Rattle.steps_walk.specs.declared.walk.Walk.{Walk}
use Rattle.steps_walk.specs.Walk.{runner_of, program_of, slots_in}
use Rattle.steps_walk.specs.Where.{names_at}
use Rattle.steps_walk.specs.Values.{sighted}

-- the cursor's place in the meaning, with all that is open round it
abbrev pub place_at_cursor : {L : Type 0} → Walk L → machine.Place
place_at_cursor w = place_of (runner_of w).procedures (program_of w).book (runner_of w).cursor (runner_of w).counted.store.callers

-- From where the cell begins so many steps of the meaning have led to a place and a store. The cursor stands at that place, with slots in place of names; the
-- values in sight are those of the store, one by one, and the store has just the names that are in sight there.
pub record IsMeant {L : Type 0} (w : Walk L) (at : Place) : Type 0 where
  pub place : machine.Place
  pub store : Store
  pub led : steps (around (start_at at)) at.count (BeforeBlock (run_block at.code) []) (start_at at).store ≡ To place store
  pub stands : place_at_cursor w ≡ place_in (runner_of w).entries (start_at at).procedures (names_at at) place
  pub values : slots_in w ≡ in_slots store
  -- under its names they are that store
  pub sighted : sighted (slots_in w) (names_in store) ≡ store
  pub names : names_in store ≡ sight_at (start_at at).procedures (names_at at) (frames_of place)

-- that is so wherever the walk stands in the run of its cell
abbrev pub Means : {L : Type 0} → Walk L → Type 0
Means w = (at : Place) → Is (runner_of w) (Inside (program_of w) at false) → IsMeant w at

-- two walks stand at one place of the meaning, and the values in sight are the same
pub record StandAlike {L : Type 0} (one other : Walk L) : Type 0 where
  pub place : place_at_cursor other ≡ place_at_cursor one
  pub values : slots_in other ≡ slots_in one
