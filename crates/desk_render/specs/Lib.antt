pub mod DeskRender
pub mod Laws
