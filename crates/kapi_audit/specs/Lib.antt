pub mod Faults
pub mod Answers
pub mod Reports
pub mod Private
