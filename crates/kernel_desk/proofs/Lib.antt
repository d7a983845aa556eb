pub mod Reading
pub mod Calls
mod Shutdowns
-- Of kernel_hall, given again.
pub use Rattle.kernel_hall.proofs.Crosses as HallCrosses
pub use Rattle.kernel_hall.proofs.AuditCrosses
