pub mod Asked
pub mod Causes
pub mod Following
pub mod Redirects
