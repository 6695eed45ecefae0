pub mod Grown
pub mod Levelled
pub mod Graphing
pub mod Numbering
pub mod Binding
pub mod Asking
pub mod Printing
pub mod Parts
