pub mod Elements
pub mod Entries
pub mod Gathers
pub mod Indices
pub mod Lengths
pub mod Loads
pub mod Marks
pub mod Stores
