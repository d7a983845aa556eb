pub mod Borders
pub mod Counting
pub mod Going
pub mod Declaring
pub mod Growing
pub mod Running
pub mod Slotted
pub mod Crosses
-- Of janus_machine, given again.
pub use Rattle.janus_machine.proofs.Bodies
pub use Rattle.janus_machine.proofs.BodiesInEffect
