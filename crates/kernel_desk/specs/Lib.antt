pub mod HallDesk
pub mod Shutdowns
pub mod Quiet
-- Of kernel_hall, given again.
pub use Rattle.kernel_hall.specs.HistoryNames
pub use Rattle.kernel_hall.specs.limit
-- Of kernel_session, given again.
pub use Rattle.kernel_session.specs.declared.socket
