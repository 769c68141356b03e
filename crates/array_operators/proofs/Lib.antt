pub mod Loads
pub mod NameLengths
pub mod Stores
