pub mod Words
pub mod Escapes
pub mod Lines
pub mod Identities
