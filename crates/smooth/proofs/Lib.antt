pub mod AgreeLaws
pub mod OrderlyLaws
pub mod PassedLaws
pub mod TargetLaws
pub mod SmoothLaws
