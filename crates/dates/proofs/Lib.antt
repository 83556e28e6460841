pub mod Real
pub mod Counting
