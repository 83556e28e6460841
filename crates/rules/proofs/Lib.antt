pub mod KindLaws
pub mod RuleLaws
