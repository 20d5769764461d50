pub mod DigitLaws
pub mod ValueLaws
pub mod Unique
