pub mod Spoiled
pub mod Way
pub mod Tree
