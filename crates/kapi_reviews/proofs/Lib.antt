pub mod Slashes
pub mod Written
pub mod Said
pub mod Again
pub mod Asked
pub mod Members
