pub mod NameLaws
pub mod OneResult
