pub mod Days
pub mod Stops
pub mod View
pub mod Stage
