pub mod Recipe
pub mod Inner
