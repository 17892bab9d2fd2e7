pub mod Finishings
pub mod Opened
pub mod Resumed
pub mod Unread
