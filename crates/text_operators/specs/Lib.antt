pub mod Equality
pub mod ObjectTexts
pub mod Texts
pub mod Writing
