pub mod Refused
-- The definitions of what lies under its lock, passed on.
pub use Rattle.hall_state.specs.HistoryNames
pub use Rattle.hall_state.specs.Turns
pub use Rattle.hall_state.specs.PendingResults
pub use Rattle.hall_state.specs.declared.limit
-- Of kernel_audit, given again.
pub use Rattle.hall_state.specs.Ends
pub use Rattle.hall_state.specs.Passes
pub use Rattle.hall_state.specs.Notes
pub use Rattle.hall_state.specs.Course
-- Of kernel_ask, given again.
pub use Rattle.hall_state.specs.Answer
pub use Rattle.hall_state.specs.answer
pub use Rattle.hall_state.specs.done
pub use Rattle.hall_state.specs.comm_change
pub use Rattle.hall_state.specs.Wishes
pub use Rattle.hall_state.specs.Shown
pub use Rattle.hall_state.specs.Evaluation
-- Of kernel_core, given again.
pub use Rattle.hall_state.specs.Minutes
pub use Rattle.hall_state.specs.Request
pub use Rattle.hall_state.specs.Runs
pub use Rattle.hall_state.specs.LegalMinutes
pub use Rattle.hall_state.specs.post
