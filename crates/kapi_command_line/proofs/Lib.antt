pub mod Values
pub mod Parsed
pub mod Table
pub mod Bounded
