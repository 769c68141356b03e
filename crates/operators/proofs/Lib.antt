pub mod Lifted
pub mod Texts
