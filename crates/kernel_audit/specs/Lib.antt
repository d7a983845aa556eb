pub mod Notes
pub mod Passes
pub mod Course
pub mod Ends
pub mod Audit
pub mod AuditFault
pub mod Marks
pub mod Orders
-- Of shared_history, given again.
pub use Rattle.shared_history.specs.declared.history.HistoryName as HistoryNames
-- Of kernel_ask, given again.
pub use Rattle.kernel_ask.specs.Answer
pub use Rattle.kernel_ask.specs.declared.answer
pub use Rattle.kernel_ask.specs.declared.done
pub use Rattle.kernel_ask.specs.declared.comm_change
pub use Rattle.kernel_ask.specs.CommChanges
pub use Rattle.kernel_ask.specs.Wishes
pub use Rattle.kernel_ask.specs.EndedAt
pub use Rattle.kernel_ask.specs.Shown
pub use Rattle.kernel_ask.specs.Evaluation
pub use Rattle.kernel_ask.specs.Making
-- Of kernel_core, given again.
pub use Rattle.kernel_ask.specs.Runs
pub use Rattle.kernel_ask.specs.LegalMinutes
pub use Rattle.kernel_ask.specs.post
pub use Rattle.kernel_ask.specs.Written
pub use Rattle.kernel_ask.specs.MachineCode
pub use Rattle.kernel_ask.specs.CoreState as State
pub use Rattle.kernel_ask.specs.Request
pub use Rattle.kernel_ask.specs.Minutes
pub use Rattle.kernel_ask.specs.outcome
pub use Rattle.kernel_ask.specs.Begins
pub use Rattle.kernel_ask.specs.Slices
pub use Rattle.kernel_ask.specs.progress
pub use Rattle.kernel_ask.specs.heading
pub use Rattle.kernel_ask.specs.travel
