pub mod VoiceRow
pub mod Voices
pub mod Desk
pub mod Puts
pub mod FirstSteps
pub mod DeskSteps
pub mod Update
