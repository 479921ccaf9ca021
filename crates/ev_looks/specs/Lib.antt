pub mod Reached
pub mod Seated
pub mod PlacedStates
pub mod WaysUp
pub mod Grounds
pub mod Refreshes
pub mod KeptLooks
