pub mod FindLaws
pub mod TripLaws
