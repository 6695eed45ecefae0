pub mod Published
pub mod Loaded
pub mod Begun
pub mod Served
pub mod Unloaded
pub mod Characters
