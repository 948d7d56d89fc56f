pub mod Faults
pub mod File
