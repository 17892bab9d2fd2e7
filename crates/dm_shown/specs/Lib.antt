pub mod Answering
pub mod Pages
pub mod Paging
pub mod Shows
pub mod Words
