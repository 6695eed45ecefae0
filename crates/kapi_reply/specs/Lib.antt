pub mod Status
pub mod Refusals
pub mod Replies
pub mod Views
pub mod Private
