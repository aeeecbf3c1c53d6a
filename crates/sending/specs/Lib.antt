pub mod Sending
pub mod Laws
pub mod Routes
pub mod InState
