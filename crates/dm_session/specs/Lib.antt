pub mod Turning
pub mod Looping
pub mod Serving
pub mod Refusing
pub mod Explaining
