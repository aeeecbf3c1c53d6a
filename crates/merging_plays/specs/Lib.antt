pub mod Own
pub mod VoiceStatus
pub mod Told
pub mod Renders
pub mod Plays
