pub mod Address
pub mod Reading
pub mod Fault
pub mod Request
