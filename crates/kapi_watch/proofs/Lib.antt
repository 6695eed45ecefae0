mod Due
pub mod Standing
mod Joined
pub mod Runs
mod Maps
pub mod Named
pub mod Lists
pub mod Histories
mod Gone
mod Scopes
