pub mod Cut
pub mod Raise
pub mod Found
