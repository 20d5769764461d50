pub mod Lifted
pub mod Rooms
