pub mod Halt
pub mod Plain
