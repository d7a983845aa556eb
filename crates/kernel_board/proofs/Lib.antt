pub mod Batch
pub mod Reading
pub mod Crosses
