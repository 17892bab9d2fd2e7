pub mod Json
pub mod Trouble
pub mod Reply
