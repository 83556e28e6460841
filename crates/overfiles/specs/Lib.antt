pub mod OneFile
pub mod Legal
