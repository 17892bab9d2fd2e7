pub mod Bytes
pub mod Digits
pub mod Heads
pub mod Printed
pub mod Requests
pub mod Fairness
