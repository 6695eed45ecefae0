pub mod Objects
pub mod Steps
pub mod Decided
pub mod Views
pub mod Laws
pub mod All
