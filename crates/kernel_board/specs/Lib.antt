pub mod Fault
pub mod Frames
pub mod Kept
pub mod Log
pub mod Reads
pub mod Laws
