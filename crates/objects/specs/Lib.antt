pub mod Caps
pub mod Decimals
pub mod Faults
pub mod Objects
pub mod Operators
pub mod Outcomes
pub mod Places
