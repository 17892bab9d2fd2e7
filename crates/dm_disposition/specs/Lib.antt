pub mod Bytes
pub mod Grammar
pub mod Names
pub mod Told
pub mod Fronts
pub mod Read
pub mod Machine
pub mod Views
