pub mod Answers
pub mod Flat
pub mod PageTurns
pub mod Turns
