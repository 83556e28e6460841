pub mod StoppingLaws
