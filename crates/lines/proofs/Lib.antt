pub mod LineLaws
pub mod OrderLaws
pub mod Pigeon
pub mod IndexLaws
