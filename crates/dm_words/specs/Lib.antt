pub mod Pieces
pub mod Table
pub mod Values
pub mod Asked
pub mod Reading
