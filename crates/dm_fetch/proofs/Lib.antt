pub mod Begun
pub mod Starts
pub mod Rises
pub mod Ends
pub mod Drives
pub mod Repeats
mod Fewer
mod Whole
pub mod Desk
mod Known
mod Sources
mod Asked
pub mod Served
mod Contents
pub mod Smooth
mod Rows
pub mod Later
pub mod Completed
