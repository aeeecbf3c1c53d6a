pub mod Answers
pub mod Routed
pub mod Declared
pub mod Heard
pub mod Late
