pub mod Texts
pub mod Lines
pub mod Verdict
pub mod Said
pub mod Report
pub mod Csv
