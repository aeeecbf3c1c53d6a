pub mod Sectionable
pub mod Singles
