pub mod Job
pub mod Ends
pub mod Faults
pub mod Loads
