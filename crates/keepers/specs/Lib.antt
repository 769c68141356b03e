pub mod Copies
pub mod Excursions
pub mod Journals
pub mod Kept
pub mod Notes
