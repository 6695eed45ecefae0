pub mod Failures
pub mod Manifests
pub mod Kinds
pub mod Doubts
pub mod Playing
pub mod Outcomes
