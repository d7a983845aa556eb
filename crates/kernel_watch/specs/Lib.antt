pub mod Hears
pub mod Pings
