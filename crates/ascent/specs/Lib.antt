pub mod Ascent
