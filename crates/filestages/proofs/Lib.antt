pub mod OrderLaws
