pub mod Answering
pub mod Changings
pub mod Dues
pub mod Orders
pub mod Pages
pub mod Taking
