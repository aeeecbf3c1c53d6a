pub mod Answers
pub mod Made
