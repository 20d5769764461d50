pub mod TokenLaws
pub mod Unique
