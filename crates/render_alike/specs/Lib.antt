pub mod Sound
pub mod Gains
pub mod Voices
pub mod Live
pub mod Stores
pub mod Begun
pub mod Turn
pub mod Render
