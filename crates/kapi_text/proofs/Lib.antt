pub mod Booleans
pub mod Prefixes
pub mod Numbers
