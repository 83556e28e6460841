pub mod PartLaws
pub mod IndexLaws
