pub mod Numbers
mod Utf8
pub mod Newest
pub mod OnePrint
pub mod NameSets
-- Of kernel_core, given again.
pub use Rattle.kernel_core.proofs.Crosses as CoreCrosses
pub use Rattle.kernel_core.proofs.Posts
pub use Rattle.kernel_core.proofs.Counting
pub use Rattle.kernel_core.proofs.Noted
-- Of kernel_machine, given again.
pub use Rattle.kernel_core.proofs.MachineCrosses
-- Of janus_memory, given again.
pub use Rattle.janus_memory.proofs.Elements
