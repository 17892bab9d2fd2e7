pub mod Reading
pub mod Working
pub mod Running
pub mod Writing
pub mod Completing
