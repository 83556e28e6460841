pub mod LineBackLaws
pub mod PreviousLaws
