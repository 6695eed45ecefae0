-- What contracts inside this crate alone cite: a caller need not read it.
pub mod Pieces
pub mod Clients
pub mod Turns
pub mod ClientsMatch
pub mod Progresses
pub mod Ready
pub mod ServerStates
