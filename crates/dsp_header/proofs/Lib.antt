pub mod Again
pub mod BytesAgain
pub mod Example
pub mod HeaderAgain
pub mod Laid
pub mod Numbers
pub mod Sizes
