pub mod Clean
pub mod Forms
pub mod Wish
pub mod Laws
