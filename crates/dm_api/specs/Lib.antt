pub mod Outgoing
pub mod Serving
