pub mod Kinds
pub mod Attributes
pub mod Faults
pub mod Questions
pub mod Answers
pub mod Reviews
pub mod Laws
