pub mod TheOne
pub mod Counting
