pub mod Form
pub mod Value
pub mod Places
pub mod Faults
pub mod Laws
