pub mod Actions
pub mod ActionCodes
pub mod Layout
pub mod Within
pub mod Instructions
pub mod Laid
pub mod Open
pub mod Law
