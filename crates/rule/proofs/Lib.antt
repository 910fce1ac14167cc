pub mod Valuing
pub mod Bounds
pub mod Outlining
pub mod Answered
pub mod Listing
pub mod Filed
pub mod Promised
