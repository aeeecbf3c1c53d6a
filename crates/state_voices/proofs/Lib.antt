pub mod IdleVoice
