pub mod StageLaws
pub mod OneResult
