pub mod Sockets
-- Of kernel_hall, given again.
pub use Rattle.kernel_desk.specs.limit
