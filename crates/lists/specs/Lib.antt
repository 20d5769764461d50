pub mod Front
pub mod Part
pub mod Put
pub mod Joined
pub mod Lowest
pub mod Test
pub mod Filled
