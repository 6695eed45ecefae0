pub mod ResultIs
pub mod Kept
