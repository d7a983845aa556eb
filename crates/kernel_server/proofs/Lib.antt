pub mod Nearing
pub mod Turns
pub mod Ending
pub mod Courses
pub mod Alike
pub mod Making
