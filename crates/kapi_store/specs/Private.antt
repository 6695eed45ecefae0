-- What contracts inside this crate alone cite: a caller need not read it.
pub mod Span
pub mod Alike
pub mod Existing
pub mod Hidden
pub mod Cut
pub mod FirstRows
pub mod Matching
