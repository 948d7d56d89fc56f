pub mod Undoing
pub mod TakenBack
