pub mod LookupLemmas
pub mod ScopeLemmas
pub mod FirstLemmas
pub mod NoFaults
pub mod UseLemmas
pub mod CallLemmas
pub mod DeclaredLemmas
pub mod HeadLemmas
pub mod ParameterLemmas
pub mod FormedLemmas
pub mod Orders
pub mod DropLemmas
pub mod SameHeads
pub mod Found
pub mod SlotLemmas
pub mod Weights
-- Of janus_slots, given again.
pub use Rattle.janus_slots.proofs.Stores
