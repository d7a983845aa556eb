pub mod Turns
pub mod TurnNotes
pub mod JustEnded
pub mod OpenResults
pub mod PendingResults
pub mod LastEnds
-- Of shared_history, given again.
pub use Rattle.kernel_audit.specs.HistoryNames
-- Of kernel_audit, given again.
pub use Rattle.kernel_audit.specs.Ends
pub use Rattle.kernel_audit.specs.Passes
pub use Rattle.kernel_audit.specs.Notes
pub use Rattle.kernel_audit.specs.Course
pub use Rattle.kernel_audit.specs.declared.note
pub use Rattle.kernel_audit.specs.CommChanges
pub use Rattle.kernel_audit.specs.Audit
-- Of kernel_ask, given again.
pub use Rattle.kernel_audit.specs.Answer
pub use Rattle.kernel_audit.specs.answer
pub use Rattle.kernel_audit.specs.done
pub use Rattle.kernel_audit.specs.comm_change
pub use Rattle.kernel_audit.specs.Wishes
pub use Rattle.kernel_audit.specs.Shown
pub use Rattle.kernel_audit.specs.Evaluation
-- Of kernel_core, given again.
pub use Rattle.kernel_audit.specs.Minutes
pub use Rattle.kernel_audit.specs.Request
pub use Rattle.kernel_audit.specs.Runs
pub use Rattle.kernel_audit.specs.LegalMinutes
pub use Rattle.kernel_audit.specs.post
