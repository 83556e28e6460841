pub mod FieldLaws
pub mod RecallLaws
