pub mod TrackLaws
pub mod LeafLaws
