pub mod Least
pub mod Differences
pub mod Offsets
pub mod Levels
pub mod Reach
pub mod Ranks
pub mod Nearest
