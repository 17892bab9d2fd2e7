pub mod Placing
mod Words
