pub mod Trees
pub mod Paths
pub mod Ways
