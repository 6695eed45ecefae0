pub mod Handles
pub mod Statuses
