pub mod Wired
pub mod Chain
pub mod Own
