pub mod DeskRows
pub mod Laws
