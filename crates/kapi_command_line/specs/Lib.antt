pub mod CommandLine
pub mod Numbers
pub mod Listens
pub mod Asked
pub mod Private
