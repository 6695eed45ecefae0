pub mod Firsts
pub mod Steps
pub mod Keys
pub mod Inserts
pub mod Decisions
pub mod Sets
