pub mod Answer
pub mod Reading
pub mod Writing
pub mod Planning
pub mod Moving
pub mod Checking
pub mod Told
pub mod Named
