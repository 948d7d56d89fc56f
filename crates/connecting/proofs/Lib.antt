pub mod Conserved
pub mod Halvings
pub mod Tests
pub mod Worths
