pub mod Follow
pub mod Rows
pub mod Open
