pub mod Anew
pub mod Naming
pub mod Pair
pub mod Round
pub mod Start
pub mod Told
