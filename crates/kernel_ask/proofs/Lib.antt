pub mod Added
pub mod Counted
pub mod Ends
pub mod Ids
pub mod Joined
pub mod Known
pub mod Named
pub mod Names
pub mod Values
pub mod Sizes
pub mod Sound
pub mod Walk
pub mod Numbers
pub mod Rows
pub mod SameNames
pub mod ShownTexts
pub mod Crosses
-- Of kernel_core, given again.
pub use Rattle.kernel_text.proofs.CoreCrosses
pub use Rattle.kernel_text.proofs.Posts
-- Of kernel_machine, given again.
pub use Rattle.kernel_text.proofs.MachineCrosses
-- Of kernel_text, given again.
pub use Rattle.kernel_text.proofs.NameSets
