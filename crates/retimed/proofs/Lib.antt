pub mod BackLaws
pub mod Unique
