pub mod Lists
pub mod Pages
pub mod Writing
pub mod Keeps
pub mod Stages
