mod Turned
mod Opened
mod Ended
pub mod Promised
