pub mod Fit
pub mod Laws
pub mod Lines
pub mod Look
pub mod Metadata
pub mod Values
pub mod Whole
