pub mod Steps
pub mod Turns
pub mod Within
pub mod Linked
pub mod Open
pub mod Ends
pub mod Fetched
pub mod Crosses
