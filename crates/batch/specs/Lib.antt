pub mod Order
pub mod Verdicts
