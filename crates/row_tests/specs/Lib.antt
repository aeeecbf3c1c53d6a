pub mod Tests
pub mod Limits
pub mod Voices
pub mod Desk
pub mod Pairs
pub mod Ranges
