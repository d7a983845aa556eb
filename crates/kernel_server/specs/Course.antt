-- What connections leave of a lone desk.
use Rattle.std.specs.Prelude.{◌≡◌, List, ◌++◌}
use Rattle.kernel_core.specs.Runs.{Run}
use Rattle.kernel_core.specs.events.Event.{Event}
use Rattle.kernel_core.specs.events.Told.{Told}
use Rattle.kernel_board.specs.Frames.{Frames}
use Rattle.kernel_server.specs.Pace.{ArePaced}
use Rattle.kernel_server.specs.Lone.{Lone}

-- The kernel ran on, event by event, with the slices of the list in their order, and of the broadcasts none was taken away.
pub record RanOn (old new : Lone) : Type 0 where
  pub events : List Event
  pub answers : List Told
  pub run : Run old.machine events answers new.machine
  pub paced : ArePaced old.slices events new.slices
  pub later : List Frames
  pub kept : new.kept ≡ old.kept ++ later
