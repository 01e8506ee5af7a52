pub mod ResizedLaws
