pub mod Order
pub mod Distance
pub mod Falling
pub mod Laws
pub mod Room
pub mod Examples
