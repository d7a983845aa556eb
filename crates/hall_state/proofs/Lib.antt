pub mod Posts
pub mod Places
pub mod Notes
pub mod Turns
pub mod Fresh
pub mod JustEnded
pub mod BesidePosts
pub mod PendingResults
pub mod Crosses
-- Of kernel_audit, given again.
pub use Rattle.kernel_audit.proofs.Fronts
pub use Rattle.kernel_audit.proofs.Noted
pub use Rattle.kernel_audit.proofs.Course
pub use Rattle.kernel_audit.proofs.Crosses as AuditCrosses
-- Of kernel_ask, given again.
pub use Rattle.kernel_audit.proofs.AskCrosses
