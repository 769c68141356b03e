pub mod Defining
pub mod Filling
pub mod Looking
pub mod Making
pub mod Pairs
pub mod Restoring
pub mod Searches
pub mod Taken
