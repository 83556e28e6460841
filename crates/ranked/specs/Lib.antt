pub mod Ranked
pub mod Heaps
