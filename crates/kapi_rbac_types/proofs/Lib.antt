pub mod RoundTrips
pub mod Labels
pub mod Selectors
pub mod Laws
pub mod Stamped
