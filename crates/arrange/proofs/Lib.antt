pub mod KeyedLaws
pub mod HintLaws
pub mod OneResult
