pub mod Tables
pub mod Held
pub mod Accepts
pub mod Loads
pub mod Precedes
