pub mod Filters
pub mod Results
pub mod Reading
pub mod Watching
pub mod Collections
pub mod Writing
pub mod Worked
