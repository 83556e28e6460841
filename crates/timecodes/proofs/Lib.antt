pub mod TimeCodeLaws
