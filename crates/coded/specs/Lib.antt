pub mod Ready
pub mod Left
