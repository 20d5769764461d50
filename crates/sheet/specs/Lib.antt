pub mod Limits
pub mod Format
pub mod Read
pub mod Write
pub mod Fields
pub mod Sample
