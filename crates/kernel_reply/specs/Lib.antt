pub mod Status
pub mod Problems
pub mod Told
pub mod Replies
pub mod Execution
pub mod Comms
pub mod Moves
pub mod Answers
pub mod Laws
-- Of kernel_core, given again.
pub use Rattle.kernel_ask.specs.Request
pub use Rattle.kernel_ask.specs.post
-- Of kernel_ask, given again.
pub use Rattle.kernel_ask.specs.declared.done
pub use Rattle.kernel_ask.specs.declared.answer
pub use Rattle.kernel_ask.specs.Wishes
pub use Rattle.kernel_ask.specs.declared.inputs
pub use Rattle.kernel_ask.specs.declared.comm_change
