pub mod ValueLaws
pub mod AdmitLaws
