pub mod Dictionaries
pub mod Keys
pub mod Memories
pub mod Newer
pub mod Pairs
pub mod Saves
pub mod Saving
pub mod Taken
