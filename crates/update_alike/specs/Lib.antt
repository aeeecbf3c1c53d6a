pub mod Found
pub mod Position
pub mod Alike
pub mod Routes
pub mod Rows
pub mod Live
pub mod VoiceAfter
