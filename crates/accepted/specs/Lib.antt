pub mod Keeps
pub mod Verdicts
