pub mod Crosses
-- What frontends hold may go to other threads: of kernel_audit and of kernel_ask, given again.
pub use Rattle.hall_state.proofs.AuditCrosses
pub use Rattle.hall_state.proofs.AskCrosses
-- And the passes that are still to be given.
pub use Rattle.hall_state.proofs.Crosses as StateCrosses
-- What was noted, given again.
pub use Rattle.hall_state.proofs.Noted
