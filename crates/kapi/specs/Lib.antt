pub mod Beginning
pub mod Doors
pub mod Lines
