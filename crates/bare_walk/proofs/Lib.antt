pub mod BareLaws
