pub mod Changing
pub mod Checking
pub mod Due
pub mod Page
