pub mod Program
pub mod Refusing
