pub mod Texts
pub mod Parts
pub mod Covers
pub mod Law
pub mod Listed
