pub mod WithLaws
