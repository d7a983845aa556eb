pub mod Numbers
pub mod Slots
pub mod Places
pub mod Law
