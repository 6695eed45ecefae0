pub mod Appending
pub mod Parts
pub mod Texts
