pub mod Gives
pub mod TripGives
