pub mod Joined
pub mod Stretches
