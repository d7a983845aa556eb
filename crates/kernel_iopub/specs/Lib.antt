pub mod Pings
pub mod Round
pub mod Signs
