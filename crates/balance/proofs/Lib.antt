pub mod ProductLaws
pub mod WalkLaws
pub mod VectorLaws
pub mod WayLaws
pub mod GrowLaws
pub mod SpoilLaws
pub mod RowLaws
pub mod Unique
