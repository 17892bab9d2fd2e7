pub mod Damage
pub mod Files
pub mod Kept
pub mod Recovery
pub mod Room
pub mod Spelled
