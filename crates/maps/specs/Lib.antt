pub mod Maps
pub mod Layers
pub mod Keyed
pub mod Search
pub mod Single
