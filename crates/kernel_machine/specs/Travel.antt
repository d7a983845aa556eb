-- A travel in the tree: how an undo, a redo and a goto go, up first and then down.
use Rattle.std.specs.Prelude.{ℕ, zero, suc}
pub use Rattle.kernel_machine.specs.declared.travel.Way.{Way}
pub use Rattle.kernel_machine.specs.declared.travel.Way.TheVariants.{Up, Down}
pub use Rattle.kernel_machine.specs.declared.travel.Aim.{Aim}
pub use Rattle.kernel_machine.specs.declared.travel.Aim.TheVariants.{Undo, Redo, Goto}
pub use Rattle.kernel_machine.specs.declared.travel.Travel.{Travel}

-- it goes up first, and then down
abbrev pub way_from : ℕ → Way
way_from zero = Down
way_from (suc up) = Up

-- the way of its next cell
abbrev pub next_way : Travel → Way
next_way travel = way_from travel.up
