pub mod Puts
pub mod Shifts
pub mod Tables
