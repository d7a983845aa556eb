pub mod Lines
pub mod Cursor
pub mod Grown
pub mod Matches
pub mod Added
pub mod History
pub mod Tail
pub mod Inspection
pub mod Judgement
pub mod EndedAt
pub mod Wishes
pub mod LookedUp
pub mod Evaluation
pub mod Making
pub mod Comms
pub mod Completion
pub mod HallFault
pub mod CommChanges
pub mod State
pub mod Answer
pub mod Shown
-- Of kernel_core, given again.
pub use Rattle.kernel_text.specs.Runs
pub use Rattle.kernel_text.specs.LegalMinutes
pub use Rattle.kernel_text.specs.post
pub use Rattle.kernel_text.specs.Request
pub use Rattle.kernel_text.specs.Written
pub use Rattle.kernel_text.specs.MachineCode
pub use Rattle.kernel_text.specs.State as CoreState
pub use Rattle.kernel_text.specs.Minutes
pub use Rattle.kernel_text.specs.outcome
pub use Rattle.kernel_text.specs.Begins
pub use Rattle.kernel_text.specs.Slices
pub use Rattle.kernel_text.specs.progress
pub use Rattle.kernel_text.specs.heading
pub use Rattle.kernel_text.specs.travel
pub use Rattle.kernel_text.specs.minutes
pub use Rattle.kernel_text.specs.Refusal
pub use Rattle.kernel_text.specs.PostFault
-- Of kernel_text, given again.
pub use Rattle.kernel_text.specs.NameSets
pub use Rattle.kernel_text.specs.Lines as TextLines
