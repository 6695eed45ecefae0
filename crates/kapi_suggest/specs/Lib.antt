pub mod Uses
pub mod Needs
pub mod Printed
pub mod Policies
pub mod Events
pub mod Idle
pub mod Private
