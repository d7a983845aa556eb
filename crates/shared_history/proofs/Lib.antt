pub mod Prefixes
pub mod Moves
pub mod Crosses
