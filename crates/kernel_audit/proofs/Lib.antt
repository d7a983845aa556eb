pub mod Ends
pub mod Filtered
pub mod Numbered
pub mod InOrder
pub mod Orders
pub mod Tickets
pub mod Noted
pub mod Course
pub mod Fronts
pub mod Crosses
-- Of shared_history, given again.
pub use Rattle.shared_history.proofs.Crosses as HistoryCrosses
-- Of kernel_ask, given again.
pub use Rattle.kernel_ask.proofs.Crosses as AskCrosses
pub use Rattle.kernel_ask.proofs.MachineCrosses
-- Of kernel_core, given again.
pub use Rattle.kernel_ask.proofs.CoreCrosses
pub use Rattle.kernel_ask.proofs.Posts
