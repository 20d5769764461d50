pub mod Table
pub mod First
pub mod Answer
pub mod Refused
pub mod Spelled
