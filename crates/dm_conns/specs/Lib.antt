pub mod Conn
pub mod Memory
pub mod Chain
