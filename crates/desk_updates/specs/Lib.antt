pub mod DeskUpdate
pub mod Laws
