-- What contracts inside this crate alone cite: a caller need not read it.
pub mod Once
pub mod Numbers
pub mod Stoppers
pub mod Index
pub mod Left
pub mod Grid
