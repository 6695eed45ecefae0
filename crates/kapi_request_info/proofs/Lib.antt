pub mod OnLiterals
pub mod Paths
pub mod Plain
pub mod Queries
pub mod Slashes
pub mod Written
