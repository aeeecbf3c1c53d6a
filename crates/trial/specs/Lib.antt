pub mod Trial
pub mod Kept
