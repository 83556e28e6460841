pub mod Lists
pub mod Trail
