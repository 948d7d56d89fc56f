pub mod Steps
pub mod Encoding
