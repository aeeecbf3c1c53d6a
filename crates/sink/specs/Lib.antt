pub mod Sink
pub mod Laws
pub mod Examples
