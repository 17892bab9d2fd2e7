pub mod Number
pub mod Tag
pub mod Range
pub mod Length
pub mod Units
pub mod Laws
