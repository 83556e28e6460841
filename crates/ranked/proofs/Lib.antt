pub mod RankedLaws
pub mod SortedLaws
pub mod HeapLaws
