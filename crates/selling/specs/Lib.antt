pub mod Answers
pub mod Sales
