pub mod Laws
pub mod Layered
pub mod Merged
pub mod Searches
