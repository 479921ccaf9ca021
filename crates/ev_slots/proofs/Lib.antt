pub mod Places
mod Writing
mod Keeping
pub mod Seating
