pub mod Moving
pub mod Courses
pub mod Deciding
pub mod Answering
pub mod Serving
pub mod Showing
pub mod Requests
pub mod Troubles
