pub mod Ints
pub mod Going
pub mod Frames
pub mod Framed
pub mod Spans
