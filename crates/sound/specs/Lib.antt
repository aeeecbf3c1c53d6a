pub mod Fill
pub mod Sound
pub mod Perform
pub mod Channel
pub mod Fused
pub mod FusedDecode
pub mod Fusing
