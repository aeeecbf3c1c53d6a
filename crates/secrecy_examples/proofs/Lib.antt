pub mod Spans
pub mod Positions
pub mod TwoRanges
pub mod RangeRefusals
pub mod Sections
pub mod Late
