pub mod Faults
pub mod Loading
pub mod Starting
pub mod Laws
pub mod Settled
pub mod Reasons
