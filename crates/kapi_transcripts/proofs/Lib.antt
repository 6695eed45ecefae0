pub mod Read
pub mod Told
