-- What contracts inside this crate alone cite: a caller need not read it.
pub mod Writing
pub mod Copies
pub mod Stages
