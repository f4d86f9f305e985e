pub mod Courses
pub mod Turns
pub mod Speeches
pub mod Inputs
pub mod Writes
pub mod Worked
