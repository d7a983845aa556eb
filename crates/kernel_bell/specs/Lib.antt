pub mod Views
pub mod Rule
pub mod Steps
pub mod Plays
pub mod Seats
pub mod Laws
