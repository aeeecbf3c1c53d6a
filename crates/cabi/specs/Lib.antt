pub mod Answers
pub mod Decode
pub mod Dsp
pub mod Encode
pub mod Merge
