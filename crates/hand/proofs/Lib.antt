pub mod ShiftLaws
pub mod TrialLaws
pub mod Unique
