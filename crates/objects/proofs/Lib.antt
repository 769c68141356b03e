pub mod Faults
pub mod Integers
pub mod Operators
pub mod Same
