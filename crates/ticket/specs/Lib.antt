pub mod Sale
pub mod Plain
