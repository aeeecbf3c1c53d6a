pub mod Columns
pub mod Parts
pub mod Records
pub mod Channels
pub mod Sinks
pub mod SinkLaws
