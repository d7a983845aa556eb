mod Leaving
pub mod Crosses
