-- The definitions of the kernel.

-- Those of the machine, passed on: a file that names them names this crate alone.
pub use Rattle.kernel_machine.specs.Language
pub use Rattle.kernel_machine.specs.Reached
pub use Rattle.kernel_machine.specs.Text
pub use Rattle.kernel_machine.specs.Refusal
pub use Rattle.kernel_machine.specs.Travel
pub use Rattle.kernel_machine.specs.Heading
pub use Rattle.kernel_machine.specs.State
pub use Rattle.kernel_machine.specs.Legal
pub use Rattle.kernel_machine.specs.Slices
pub use Rattle.kernel_machine.specs.Begins
pub use Rattle.kernel_machine.specs.Extent
pub use Rattle.kernel_machine.specs.Request
pub use Rattle.kernel_machine.specs.Minutes
pub use Rattle.kernel_machine.specs.Runs
pub use Rattle.kernel_machine.specs.PostFault
pub use Rattle.kernel_machine.specs.Midway
pub use Rattle.kernel_machine.specs.LegalState
pub use Rattle.kernel_machine.specs.StepsOfSlices
pub use Rattle.kernel_machine.specs.Ends
pub use Rattle.kernel_machine.specs.LegalMinutes
pub use Rattle.kernel_machine.specs.StateCode
pub use Rattle.kernel_machine.specs.MachineCode
-- The laws of its runs.
pub use Rattle.machine_laws.specs.Theorems
pub use Rattle.machine_laws.specs.Travels
pub use Rattle.machine_laws.specs.CountedSteps
pub use Rattle.machine_laws.specs.Counters
pub use Rattle.machine_laws.specs.Determined
pub use Rattle.machine_laws.specs.OverTime
-- The machine's plain types.
pub use Rattle.kernel_machine.specs.declared.events
pub use Rattle.kernel_machine.specs.declared.outcome
pub use Rattle.kernel_machine.specs.declared.post
pub use Rattle.kernel_machine.specs.declared.progress
pub use Rattle.kernel_machine.specs.declared.travel
pub use Rattle.kernel_machine.specs.declared.heading
pub use Rattle.kernel_machine.specs.declared.limit
pub use Rattle.kernel_machine.specs.contracts.outcome as contracts_of_outcome
pub use Rattle.kernel_machine.specs.contracts.post as contracts_of_post
-- Procedures that are lent, and the view of the shown world; the trees of nodes; and what an expression is checked over.
pub use Rattle.kernel_history.specs.Defined
pub use Rattle.kernel_history.specs.NodeTrees
pub use Rattle.kernel_history.specs.DeclaredNames
-- Of the check of cells and expressions.
pub use Rattle.kernel_history.specs.Check
pub use Rattle.kernel_history.specs.Naming
pub use Rattle.kernel_history.specs.CheckFault
pub use Rattle.kernel_history.specs.check_fault
-- What a runner does that is taken out with its open cell.
pub use Rattle.kernel_history.specs.Runner
-- The code's own words: the minutes as it writes them, and how its fields are the machine.
pub mod Written
pub mod MachineParts
