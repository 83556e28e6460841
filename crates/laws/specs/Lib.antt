pub mod Tests
pub mod Below
pub mod Splice
pub mod Numbered
pub mod Settled
pub mod Match
