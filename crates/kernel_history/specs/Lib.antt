-- The definitions of the history: its types read as those of the machine, and what its fields keep.

pub mod Fields
pub mod CountedState
pub mod NodeTrees
pub mod DeclaredNames
pub mod Bodies
pub mod Index
pub mod TableNames
pub mod Standing
pub mod Kept
pub mod OpenCell
pub mod Came
-- Of janus_frames, given again.
pub use Rattle.kernel_loader.specs.StoreState
-- Of kernel_loader, given again.
pub use Rattle.kernel_loader.specs.Defined
pub use Rattle.kernel_loader.specs.Runner
-- Of janus_check, given again.
pub use Rattle.janus_check.specs.Check
pub use Rattle.janus_check.specs.Naming
pub use Rattle.janus_check.specs.Fault as CheckFault
pub use Rattle.janus_check.specs.declared.fault as check_fault
