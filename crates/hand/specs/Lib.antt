pub mod Hand
pub mod Shift
pub mod Trial
