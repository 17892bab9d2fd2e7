pub mod Texts
pub mod OnePieces
pub mod MorePieces
pub mod OneValue
pub mod OneCommand
