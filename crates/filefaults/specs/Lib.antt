pub mod Faults
pub mod Version
