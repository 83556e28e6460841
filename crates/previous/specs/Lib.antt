pub mod Previous
pub mod Steps
