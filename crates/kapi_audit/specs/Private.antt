-- What contracts inside this crate alone cite: a caller need not read it.
pub mod Sharing
pub mod Readers
pub mod Reading
