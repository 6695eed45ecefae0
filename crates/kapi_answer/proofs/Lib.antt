mod Semicolons
pub mod Stored
pub mod Merged
pub mod Listed
pub mod Granted
pub mod Watched
mod NamedTrees
pub mod Histories
pub mod Escalated
pub mod Joined
mod Sought
