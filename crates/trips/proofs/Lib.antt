pub mod PlainLaws
pub mod ReadyLaws
pub mod LeftLaws
pub mod IndexedLaws
