pub mod Passed
pub mod Rows
pub mod Cases
