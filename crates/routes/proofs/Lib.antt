pub mod RouteLaws
