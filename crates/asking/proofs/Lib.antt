pub mod RowLaws
pub mod OneResult
