pub mod Plain
pub mod Answers
pub mod Numbers
