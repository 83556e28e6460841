pub mod HaltLaws
pub mod ViewOfHalts
