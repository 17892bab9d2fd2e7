pub mod Bringing
pub mod Completed
