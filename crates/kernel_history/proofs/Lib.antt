pub mod BodiesAt
pub mod Nodes
pub mod WorldNames
pub mod Indexed
pub mod Standing
pub mod InTime
pub mod Depths
pub mod Rows
mod Done
mod TableNames
pub mod Crosses
-- Of janus_check, given again.
pub use Rattle.janus_check.proofs.LookupLemmas
