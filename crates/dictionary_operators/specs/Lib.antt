pub mod Entries
pub mod Open
pub mod Searches
pub mod Sizes
