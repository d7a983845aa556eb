mod Begins
mod Courses
