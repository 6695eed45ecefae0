pub mod Faults
pub mod Each
pub mod Questions
pub mod Given
pub mod Lists
pub mod Answers
pub mod Views
pub mod Batches
