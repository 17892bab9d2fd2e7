pub mod Exact
pub mod ExactFields
pub mod ExactValues
pub mod ExactEntries
pub mod Turns
pub mod Places
pub mod Lengths
pub mod Laid
