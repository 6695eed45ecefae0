pub mod Listed
pub mod Taken
pub mod Wrote
mod Groups
