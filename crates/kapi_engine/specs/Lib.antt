pub mod LoadedPolicies
pub mod Lines
pub mod Questions
pub mod Decisions
pub mod Manifests
pub mod Paths
