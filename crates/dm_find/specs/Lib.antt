pub mod Bodies
pub mod Finding
pub mod Reopening
