pub mod Marks
pub mod Rows
pub mod Turns
pub mod Keeps
