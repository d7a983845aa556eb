pub mod Spots
pub mod Standing
pub mod Table
