pub mod Tasks
pub mod Recalls
pub mod Replies
pub mod Api
