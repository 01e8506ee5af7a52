pub mod Place
pub mod Plan
