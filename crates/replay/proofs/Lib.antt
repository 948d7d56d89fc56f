pub mod Collected
pub mod Parts
pub mod Turning
