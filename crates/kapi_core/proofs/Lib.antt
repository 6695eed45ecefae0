pub mod Writes
pub mod Served
pub mod AlikeLinks
pub mod Steps
pub mod Feeding
pub mod RunsOut
pub mod Runs
pub mod Tables
pub mod Openings
pub mod Fitting
pub mod ProgramFitting
pub mod Opened
pub mod Loads
pub mod Turning
pub mod Pumping
pub mod Effects
pub mod Gains
pub mod Telling
pub mod OpenedPolicy
pub mod Acting
pub mod Histories
mod Listed
pub mod Numbered
mod Pumps
pub mod Rechecking
mod Concerned
