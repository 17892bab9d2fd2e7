pub mod Cause
pub mod Laws
pub mod Mode
