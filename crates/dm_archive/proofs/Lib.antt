pub mod Deciding
pub mod Leaves
pub mod Moves
mod Nexts
mod Rows
