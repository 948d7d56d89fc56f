pub mod Fault
pub mod Meaning
pub mod Kept
pub mod Made
pub mod Table
pub mod Quota
pub mod Laws
