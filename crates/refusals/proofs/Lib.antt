pub mod TableLaws
pub mod FirstLaws
pub mod AnswerLaws
pub mod RefusedLaws
pub mod SpelledLaws
pub mod Unique
