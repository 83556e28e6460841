pub mod Keys
pub mod Ranks
pub mod KeyFiles
