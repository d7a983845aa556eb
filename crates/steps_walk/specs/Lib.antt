pub mod Walking
pub mod Where
pub mod Bodies
pub mod Walk
pub mod Standing
pub mod Stops
pub mod Sights
pub mod Values
pub mod Quiet
pub mod Texts
pub mod Meant
-- Of kernel_runner, given again.
pub use Rattle.kernel_runner.specs.Runner
pub use Rattle.kernel_runner.specs.Program
pub use Rattle.kernel_runner.specs.declared.program
-- Of kernel_history, given again.
pub use Rattle.kernel_history.specs.OpenCell
pub use Rattle.kernel_history.specs.Fields
pub use Rattle.kernel_history.specs.declared.open_cell
-- Of kernel_machine, given again.
pub use Rattle.kernel_machine.specs.declared.progress
pub use Rattle.kernel_runner.specs.declared.runner
-- Of janus_slots, given again.
pub use Rattle.janus_slots.specs.Slots
