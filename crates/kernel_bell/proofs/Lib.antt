pub mod Ringers
pub mod Keeps
pub mod Allowed
pub mod Concludes
pub mod Crosses
