pub mod FindLaws
pub mod SumLaws
pub mod JoinLaws
pub mod MarkLaws
pub mod RateLaws
pub mod RaiseLaws
pub mod RowLaws
pub mod Unique
