pub mod Render
pub mod Turn
pub mod Begins
pub mod Laws
pub mod Made
