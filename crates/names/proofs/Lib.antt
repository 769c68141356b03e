pub mod Added
pub mod Chains
pub mod Laid
pub mod Lasting
pub mod Places
pub mod Sound
pub mod Tables
