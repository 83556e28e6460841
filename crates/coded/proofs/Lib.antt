pub mod CodeLaws
pub mod LeftLaws
