pub mod Going
pub mod Keeping
pub mod Read
pub mod Told
pub mod Asking
