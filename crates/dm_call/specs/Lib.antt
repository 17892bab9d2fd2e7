pub mod Numbers
pub mod Routes
pub mod Query
pub mod Content
pub mod Asked
pub mod Held
pub mod Fitting
