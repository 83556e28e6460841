pub mod ListLaws
pub mod TrailLaws
pub mod WalkLaws
pub mod NumberLaws
