pub mod States
pub mod Access
pub mod Steps
pub mod Within
pub mod Worked
pub mod StoredStates
pub mod Runs
