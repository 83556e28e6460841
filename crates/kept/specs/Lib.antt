pub mod Trips
pub mod Own
