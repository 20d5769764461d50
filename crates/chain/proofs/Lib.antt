pub mod BaseLaws
pub mod ThreadLaws
pub mod ColumnLaws
pub mod ChainLaws
pub mod CeilingLaws
pub mod Unique
pub mod SameLaws
