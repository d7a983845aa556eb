pub mod Pace
pub mod Jobs
pub mod Lone
pub mod Course
pub mod Laws
