pub mod Reading
pub mod Adding
pub mod Saying
pub mod Answering
pub mod Explaining
pub mod Working
pub mod Running
pub mod Words
