pub mod Tests
pub mod Holds
pub mod Laws
pub mod Walk
pub mod Stretches
pub mod Inside
pub mod Questions
pub mod Examples
