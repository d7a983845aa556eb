pub mod Fault
pub mod Tree
pub mod Kept
pub mod Paths
pub mod Laws
