pub mod Bytes
pub mod Faults
pub mod Kind
pub mod Limits
pub mod Name
pub mod Reason
