pub mod Head
pub mod Content
pub mod Heard
pub mod Held
pub mod Written
