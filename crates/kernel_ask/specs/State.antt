-- The state of a kernel, as it is told.
use Rattle.std.specs.Prelude.{◌≡◌, Bool, true, false, map, string_bytes}
use Rattle.janus_meaning.specs.World.{World, listed}
use Rattle.kernel_text.specs.State.{Job, Idle, Border, Inside, Shown}
use Rattle.kernel_text.specs.Runs.{Machine}
use Rattle.kernel_text.specs.Extent.{IsExtent}
use Rattle.kernel_text.specs.ValueTexts.{value_text}
use Rattle.kernel_ask.specs.declared.answer.KernelState.{KernelState}

-- it holds of the shown world
abbrev pub OfShown : Machine → (World → Type 0) → Type 0
OfShown m Holds = (w : World) × Shown m.state w × Holds w

-- a job is open
abbrev pub is_busy : Job → Bool
is_busy Idle = false
is_busy (Border travel) = true
is_busy (Inside e) = true

-- the position, the counter, how far an undo and a redo can go, how many nodes there are, whether a job is open, and the value texts of
-- the shown world in the order of declaration
pub record IsState (m : Machine) (s : KernelState) : Type 0 where
  pub node : s.node ≡ m.state.past.position
  pub count : s.count ≡ m.counter
  pub extent : IsExtent m.state.past (record { undo = s.depth; redo = s.redo; nodes = s.nodes })
  pub busy : s.busy ≡ is_busy m.state.job
  pub world : OfShown m (λ w. map string_bytes s.world.items ≡ map value_text (listed w.store))
