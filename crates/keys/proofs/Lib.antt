pub mod TestLaws
pub mod TableLaws
pub mod DigitLaws
pub mod ReadLaws
pub mod KeyLaws
pub mod KeyFileLaws
