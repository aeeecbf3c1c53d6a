pub mod Places
pub mod Step
pub mod Context
pub mod Decode
pub mod Runs
pub mod Counts
pub mod Answer
