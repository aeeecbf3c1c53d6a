pub mod Merge
pub mod Marks
pub mod Answer
