pub mod Rules
pub mod Kept
pub mod Parts
pub mod Walk
