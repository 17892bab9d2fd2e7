pub mod Begun
pub mod Founds
pub mod Taking
