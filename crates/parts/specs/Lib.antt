pub mod Keyed
pub mod Parts
