pub mod Giving
pub mod Sending
pub mod Marking
