pub mod KindLaws
