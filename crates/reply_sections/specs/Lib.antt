pub mod Bytes
pub mod Pools
pub mod Voices
pub mod Effects
