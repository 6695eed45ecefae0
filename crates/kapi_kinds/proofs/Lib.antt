pub mod Joined
pub mod Grown
pub mod Fits
