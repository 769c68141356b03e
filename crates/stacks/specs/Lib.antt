pub mod Entries
pub mod Printed
pub mod Stacked
