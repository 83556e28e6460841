pub mod FaultLaws
pub mod OneResult
