pub mod Once
mod Pieces
