pub mod Marks
pub mod Rows
