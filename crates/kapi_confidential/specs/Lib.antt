pub mod Alike
pub mod Writes
pub mod Worked
