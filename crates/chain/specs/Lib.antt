pub mod Bases
pub mod Thread
pub mod Chain
pub mod Made
pub mod Ceiling
