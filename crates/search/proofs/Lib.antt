pub mod CutLaws
pub mod GatherLaws
pub mod OrderLaws
pub mod UnderwayLaws
pub mod FoundLaws
pub mod Unique
