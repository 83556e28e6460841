pub mod SeenLaws
pub mod LeafLaws
