pub mod Value
pub mod Places
pub mod Kinds
pub mod Readers
pub mod Faults
pub mod File
