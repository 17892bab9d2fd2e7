pub mod Counts
pub mod Shown
pub mod Steps
pub mod Resting
pub mod Brings
pub mod Completed
