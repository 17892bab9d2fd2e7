pub mod Finishing
pub mod Refused
pub mod Resuming
