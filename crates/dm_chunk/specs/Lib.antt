pub mod Bytes
pub mod Grammar
pub mod Fronts
pub mod Laws
pub mod Machine
pub mod Decoded
pub mod Waits
