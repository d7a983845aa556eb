-- Lemmas of the machine that proofs above cite.
pub use Rattle.machine_laws.proofs.Counting
pub use Rattle.machine_laws.proofs.Determined
pub use Rattle.machine_laws.proofs.Jobs
pub use Rattle.kernel_machine.proofs.Noted
pub use Rattle.kernel_machine.proofs.Posts
pub use Rattle.kernel_machine.proofs.Stays
pub use Rattle.kernel_machine.proofs.Trees
pub mod Writing
pub mod Taken
pub mod Crosses
-- Of kernel_machine, given again.
pub use Rattle.kernel_machine.proofs.Crosses as MachineCrosses
-- Of janus_check, given again.
pub use Rattle.kernel_history.proofs.LookupLemmas
