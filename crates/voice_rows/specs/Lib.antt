pub mod WaveRow
pub mod VoiceRow
pub mod IdleRow
