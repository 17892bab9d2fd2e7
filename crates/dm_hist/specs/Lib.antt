pub mod Faults
pub mod Memory
pub mod Page
pub mod Place
pub mod Rows
pub mod Shown
