pub mod Fronts
mod Stripping
