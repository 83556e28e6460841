pub mod DayLaws
pub mod StopLaws
pub mod ViewLaws
pub mod OtherLines
