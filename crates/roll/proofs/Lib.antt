pub mod StandingLaws
pub mod RollLaws
pub mod TripLaws
