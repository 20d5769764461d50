pub mod SheetLaws
pub mod CheckLaws
pub mod Unique
