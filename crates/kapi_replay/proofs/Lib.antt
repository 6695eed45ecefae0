pub mod Played
pub mod Prepared
