pub mod Applied
pub mod Parts
pub mod Refusals
pub mod Rules
pub mod Subsidy
pub mod Value
