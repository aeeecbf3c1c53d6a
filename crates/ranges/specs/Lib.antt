pub mod Ranges
pub mod Ascending
pub mod Stretch
pub mod Questions
