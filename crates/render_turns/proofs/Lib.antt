pub mod Loop
pub mod After
