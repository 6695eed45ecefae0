pub mod Shares
pub mod Shared
pub mod Joined
pub mod Seats
pub mod ByPolicy
pub mod Telling
