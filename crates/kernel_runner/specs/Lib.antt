-- The definitions of the runner.

pub mod Program
pub mod Declarable
pub mod Runner
-- Of janus_memory, given again.
pub use Rattle.janus_memory.specs.Values
-- Of janus_machine, given again.
pub use Rattle.janus_machine.specs.Procedures
pub use Rattle.janus_machine.specs.Bodies
pub use Rattle.janus_machine.specs.declared.linked_procedure
pub use Rattle.janus_machine.specs.declared.procedures
pub use Rattle.janus_machine.specs.LinkedProcedure
pub use Rattle.janus_machine.specs.Places
pub use Rattle.janus_machine.specs.declared.linked_code
pub use Rattle.janus_machine.specs.declared.direction
-- Of janus_frames, given again.
pub use Rattle.janus_machine.specs.StoreState
pub use Rattle.janus_machine.specs.Cells
pub use Rattle.janus_machine.specs.FrameValues
