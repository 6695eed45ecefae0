-- What contracts inside this crate alone cite: a caller need not read it.
pub mod Writes
pub mod Feeds
pub mod Openings
