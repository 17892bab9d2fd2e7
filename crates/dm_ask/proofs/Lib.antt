pub mod Answering
pub mod Redirecting
pub mod Talking
