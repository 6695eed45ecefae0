pub mod Events
pub mod AnswerLines
pub mod Scripts
pub mod Private
pub mod Gains
