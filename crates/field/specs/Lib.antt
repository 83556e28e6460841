pub mod Values
pub mod Kinds
pub mod Names
pub mod Rules
pub mod Stage
