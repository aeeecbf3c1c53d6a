pub mod Sending
pub mod Strides
pub mod Laws
pub mod Sizes
pub mod Cases
