pub mod MarkLaws
pub mod ViewOfMarks
