pub mod Starts
pub mod Attempts
pub mod Drive
pub mod Fetches
pub mod Known
pub mod Serves
pub mod Completes
