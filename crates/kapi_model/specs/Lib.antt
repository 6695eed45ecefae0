pub mod Identities
pub mod Subjects
pub mod Names
pub mod FaultKind
pub mod Kinds
pub mod Selector
pub mod SelectorText
pub mod Private
