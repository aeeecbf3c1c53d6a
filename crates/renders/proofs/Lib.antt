pub mod Rounds
pub mod OneRender
pub mod Sections
pub mod Singles
pub mod Left
pub mod Loop
