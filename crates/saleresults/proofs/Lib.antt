pub mod RefusedLaws
