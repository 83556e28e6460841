pub mod Links
pub mod Signs
pub mod Stage
pub mod Met
pub mod Numeric
