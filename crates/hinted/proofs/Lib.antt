pub mod HintedLaws
