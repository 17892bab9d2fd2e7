pub mod Leftovers
pub mod Listed
pub mod Stills
pub mod Swept
