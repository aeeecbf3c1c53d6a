pub mod Answers
pub mod Bytes
