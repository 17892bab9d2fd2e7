pub mod Words
pub mod Cover
pub mod Plan
