pub mod Kept
pub mod Made
pub mod Listed
pub mod Sighted
pub mod Named
pub mod Unlisted
pub mod Entries
pub mod InEffect
pub mod Tabled
pub mod Readable
-- Of janus_machine, given again.
pub use Rattle.kernel_runner.proofs.Bodies
pub use Rattle.kernel_runner.proofs.BodiesInEffect
-- Of kernel_runner, given again.
pub use Rattle.kernel_runner.proofs.Counting
pub use Rattle.kernel_runner.proofs.Crosses as RunnerCrosses
pub use Rattle.kernel_runner.proofs.Growing
pub use Rattle.kernel_runner.proofs.Running
