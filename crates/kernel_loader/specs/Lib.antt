-- The definitions of the loader.

pub mod Kinds
pub mod Defined
pub mod Known
pub mod InEffect
pub mod Tables
pub mod Keeping
pub mod Loading
-- Of kernel_runner, given again.
pub use Rattle.kernel_runner.specs.Values
pub use Rattle.kernel_runner.specs.Runner
pub use Rattle.kernel_runner.specs.Program
pub use Rattle.kernel_runner.specs.declared.program
pub use Rattle.kernel_runner.specs.declared.runner
-- Of janus_machine, given again.
pub use Rattle.kernel_runner.specs.Procedures
pub use Rattle.kernel_runner.specs.Bodies
pub use Rattle.kernel_runner.specs.linked_procedure
pub use Rattle.kernel_runner.specs.procedures
pub use Rattle.kernel_runner.specs.LinkedProcedure
-- Of janus_frames, given again.
pub use Rattle.kernel_runner.specs.StoreState
pub use Rattle.kernel_runner.specs.FrameValues
