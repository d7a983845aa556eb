pub mod Lines
pub mod ValueTexts
-- procedures, and sets of names
pub mod Procedures
pub mod ProcedureTexts
pub mod NameSets
pub mod Laws
-- Of kernel_core, given again.
pub use Rattle.kernel_core.specs.Runs
pub use Rattle.kernel_core.specs.LegalMinutes
pub use Rattle.kernel_core.specs.post
pub use Rattle.kernel_core.specs.Request
pub use Rattle.kernel_core.specs.Written
pub use Rattle.kernel_core.specs.MachineCode
pub use Rattle.kernel_core.specs.State
pub use Rattle.kernel_core.specs.Minutes
pub use Rattle.kernel_core.specs.outcome
pub use Rattle.kernel_core.specs.Begins
pub use Rattle.kernel_core.specs.Slices
pub use Rattle.kernel_core.specs.progress
pub use Rattle.kernel_core.specs.heading
pub use Rattle.kernel_core.specs.travel
pub use Rattle.kernel_core.specs.declared.minutes
pub use Rattle.kernel_core.specs.Refusal
pub use Rattle.kernel_core.specs.PostFault
pub use Rattle.kernel_core.specs.Defined
pub use Rattle.kernel_core.specs.Counters
pub use Rattle.kernel_core.specs.NodeTrees
pub use Rattle.kernel_core.specs.DeclaredNames
pub use Rattle.kernel_core.specs.Text
pub use Rattle.kernel_core.specs.Extent
-- Of janus_check, given again.
pub use Rattle.kernel_core.specs.Check
pub use Rattle.kernel_core.specs.Naming
pub use Rattle.kernel_core.specs.CheckFault
pub use Rattle.kernel_core.specs.check_fault
-- Of janus_memory, given again.
pub use Rattle.janus_memory.specs.Stacks
pub use Rattle.janus_memory.specs.Values
