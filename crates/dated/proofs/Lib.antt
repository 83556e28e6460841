pub mod RuleLaws
pub mod DateLaws
