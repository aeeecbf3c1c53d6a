pub mod Here
pub mod InTurn
pub mod Places
