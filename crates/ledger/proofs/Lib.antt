pub mod Balances
pub mod Books
pub mod Connects
pub mod PageRunning
pub mod Parts
pub mod Performing
pub mod Running
