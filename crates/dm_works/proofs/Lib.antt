pub mod Stepping
pub mod Calling
mod Settling
mod Pausing
mod Replying
pub mod Recalled
mod Archived
mod Stops
