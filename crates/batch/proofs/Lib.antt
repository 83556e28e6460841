pub mod SoundLaws
pub mod AcceptedLaws
pub mod RecordsLaws
pub mod VerdictLaws
