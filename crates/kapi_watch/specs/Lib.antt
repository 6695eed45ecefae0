pub mod Shown
pub mod Watches
pub mod Private
pub mod Running
pub mod Text
pub mod Runs
pub mod Histories
pub mod Lists
