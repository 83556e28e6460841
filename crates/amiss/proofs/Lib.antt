pub mod SoundLaws
pub mod RecordLaws
pub mod AmissLaws
