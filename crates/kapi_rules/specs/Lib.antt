pub mod Entries
pub mod Points
pub mod Rules
pub mod Atoms
pub mod Missing
pub mod Worked
