mod Digits
mod Formed
mod Grows
mod Written
