pub mod Update
pub mod VoiceRows
pub mod DeskLaws
pub mod Whole
pub mod FromWhole
