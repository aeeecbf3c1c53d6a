pub mod Reply
pub mod Laws
pub mod Writing
