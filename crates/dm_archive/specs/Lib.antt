pub mod Doing
pub mod Faults
pub mod Leaving
pub mod Moving
pub mod Removing
pub mod Stops
