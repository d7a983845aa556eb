pub mod Fault
pub mod Names
pub mod Check
pub mod Scope
pub mod Seen
pub mod Sight
pub mod WellFormed
pub mod Checked
pub mod Naming
pub mod Own
-- Of janus_slots, given again.
pub use Rattle.janus_slots.specs.Slots
