mod Pings
pub mod Hearing
