pub mod FieldLaws
pub mod SoundLaws
