pub mod Relief
pub mod Room
pub mod Seen
pub mod Shares
