pub mod Slashes
pub mod Tokens
pub mod Pieces
pub mod Values
pub mod Ordered
