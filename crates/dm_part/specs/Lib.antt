pub mod Digest
pub mod Keeping
pub mod Laws
pub mod Making
pub mod Naming
pub mod Publish
pub mod Rows
pub mod Runs
