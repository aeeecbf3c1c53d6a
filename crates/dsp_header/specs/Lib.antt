pub mod Big
pub mod Header
pub mod Within
