pub mod HandedLaws
pub mod NextLaws
pub mod Unique
