pub mod Encode
pub mod Frame
pub mod Sums
pub mod Answer
