pub mod LiftedLaws
pub mod OutLaws
pub mod StretchLaws
pub mod FiredLaws
pub mod RoomLaws
pub mod Unique
