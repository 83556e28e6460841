pub mod StartLaws
pub mod WalkLaws
