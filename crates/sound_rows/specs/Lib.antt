pub mod SoundRow
pub mod Spelled
pub mod SoundTrip
