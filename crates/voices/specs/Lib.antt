pub mod Voices
pub mod RowLaws
pub mod Own
pub mod Turns
