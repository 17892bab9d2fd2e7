pub mod Kept
pub mod Sessions
pub mod Reading
pub mod Running
pub mod Printing
