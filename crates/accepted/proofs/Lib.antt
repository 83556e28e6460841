pub mod FileRules
pub mod FieldRules
pub mod TripRules
pub mod Exactly
