pub mod Lines
pub mod Lined
pub mod Bytes
mod Ends
