pub mod PartLaws
pub mod Unique
