pub mod RenderVoice
pub mod Made
pub mod Next
pub mod Laws
