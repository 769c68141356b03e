pub mod Index
pub mod Names
