pub mod MovingLaws
pub mod Unique
