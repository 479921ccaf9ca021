pub mod Tallies
pub mod Shelves
pub mod Rings
pub mod HandSteps
pub mod OwnerSteps
pub mod Seats
pub mod Calls
pub mod Filling
