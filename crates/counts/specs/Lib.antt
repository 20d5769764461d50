pub mod Joining
pub mod Raising
pub mod Smallest
