pub mod Fronts
pub mod Names
pub mod Freed
pub mod Gone
